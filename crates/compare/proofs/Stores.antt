-- Entries written one after another.
use Rattle.std.proofs.Common.{◌≡◌, refl, ap, sym, ◌∙◌, List, [], ◌∷◌, ◌++◌, ℕ, ◌*◌, ◌≤◌, ℤ, length, length-append, arith}
use Rattle.std.proofs.lemmas.List.Edits.{sets}
use Rattle.std.proofs.Math.Seq.{length-sets}
use Rattle.records.specs.Columns.{over}
use Rattle.records.specs.StoreLaws.{then, stored_over}
use Rattle.compare.specs.Differences.{Entry, numbers}
use Rattle.compare.specs.Comparison.{entry_length}
use Rattle.compare.specs.DifferenceLaws.{numbers_length}
use Rattle.compare.specs.Code.Puts.{Put}

-- the length of a target stays
pub put_length : {old new : List ℤ} {at end : ℕ} {es : List Entry} → Put old new at end es → length new ≡ length old
put_length {old} {at = at} {es = es} p = ap length p.target ∙ length-sets old at (numbers es)

numbers_append : (es fs : List Entry) → numbers (es ++ fs) ≡ numbers es ++ numbers fs
numbers_append [] fs = refl
numbers_append (e ∷ es) fs = rw (numbers_append es fs) refl

-- some entries and then others
pub put_then : {old mid new : List ℤ} {at middle end : ℕ} {es fs : List Entry} → Put old mid at middle es → Put mid new middle end fs → Put old new at end (es ++ fs)
put_then {old} {at = at} {middle = middle} {es = es} {fs = fs} p q =
    record {
      target = then old at middle (numbers es) (numbers fs) p.target q.target (omega (arith, p.next, numbers_length es)) ∙ ap (sets old at) (sym (numbers_append es fs));
      next = omega (arith, p.next, q.next, length-append es fs);
    }

-- from the start on, where the target has room
pub put_over : {old new : List ℤ} {end : ℕ} {es : List Entry} → Put old new 0 end es → entry_length * length es ≤ length old → new ≡ over (numbers es) old
put_over {old} {es = es} p h = p.target ∙ stored_over (numbers es) old (omega (arith, numbers_length es))
