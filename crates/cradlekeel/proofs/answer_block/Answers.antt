-- Each turn reads within the rest of the block, and the line carried on is that after it.
use Rattle.std.proofs.Common.{◌≡◌, sym, ap, ◌∙◌, ◌-◌, length, take, drop, Result, Ok, Err, arith, rules, length-drop, take_all, take-append-drop}
use Rattle.text.specs.declared.grammar.Scan.{Scan}
use Rattle.text.specs.Block.{leaves}
use Rattle.text.specs.BlockLaws.{leaves_append, block_within}
use Rattle.cradlekeel.specs.declared.Stop.{Stop}
use Rattle.cradlekeel.specs.Code.Turns.{after_write}
use Rattle.cradlekeel.proofs.answer_block.Goals as goal

-- a line that is carried on after a write is the one handed over
handed_over : (written : Result (Unit {0}) Stop) {s line : Scan} → Ok line ≡ after_write written s → line ≡ s
handed_over (Ok u) e = cc
handed_over (Err stop) e = cc

pub slice_bounds-rest-count : goal.slice_bounds-rest-count
slice_bounds-rest-count c = block_within c.block-done.ensures.result

pub slice_bounds-rest-start : goal.slice_bounds-rest-start
slice_bounds-rest-start c = let h = block_within c.block-done.ensures.result in search (rules, h)

pub loop-rest-preserved : goal.loop-rest-preserved
loop-rest-preserved c =
    let line = c.loop-rest.line in
    let rest = c.loop-rest.rest.now in
    let n = c.block-done.result.read in
    let left : take (length rest - n) (drop n rest) ≡ drop n rest = take_all (length rest - n) (drop n rest) (omega (arith, length-drop n rest)) in
    ap (leaves c.in_ok-line.line) left
    ∙ ap (λ (s : Scan). leaves s (drop n rest)) (handed_over c.write_out-written.result c.in_ok-line.ensures ∙ c.block-done.ensures.result.scan)
    ∙ sym (leaves_append line (take n rest) (drop n rest)) ∙ ap (leaves line) (take-append-drop n rest) ∙ c.loop-rest.invariant
