use Rattle.std.proofs.Common.{ap, ◌∙◌, ◌+◌, ◌*◌}
use Rattle.std.proofs.lemmas.List.Edits.{sets}
use Rattle.records.proofs.Numbers.{bytes_2, bytes_4}
use Rattle.records.proofs.Stores.{trailer_stored}
use Rattle.records.proofs.files.put_trailer.Goals as goal

pub returns : goal.returns
returns c =
    let at = c.args.at in
    let n = c.args.n in
    trailer_stored c.args.out.now at n
    (c.put.ensures ∙ ap (sets c.args.out.now at) (c.to_le_bytes.ensures ∙ bytes_2 20))
    (c.put-2.ensures ∙ ap (sets _ (at + 2)) (c.to_le_bytes-2.ensures ∙ bytes_2 n))
    (c.put-3.ensures ∙ ap (sets _ (at + 4)) (c.to_le_bytes-3.ensures ∙ bytes_4 (20 * n)))
