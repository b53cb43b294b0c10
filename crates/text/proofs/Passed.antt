-- What holds of a block after some of its bytes, and one byte more.
use Rattle.std.proofs.Common.{◌≡◌, ℕ, ◌+◌, ◌-◌, ◌≤◌, ◌<◌, List, ◌++◌, length, get_or, take, drop, ap, sym, ◌∙◌, arith}
use Rattle.text.specs.declared.grammar.Scan.{Scan}
use Rattle.text.specs.Wrote.{Wrote}
use Rattle.text.specs.WroteLaws.{wrote_length, wrote_then, wrote_as}
use Rattle.text.specs.Block.{emitted, next_scan, emits, leaves, line_room, reads, Blocked}
use Rattle.text.specs.BlockLaws.{leaves_take, emits_take, reads_full, reads_next}

-- the line and the output are those of the first i bytes, and what is still to be read is that of the room left
pub record Passed (s : Scan) (input old : List ℕ) (i : ℕ) (line : Scan) (out : List ℕ) (end : ℕ) : Type 0 where
  pub line_is : line ≡ leaves s (take i input)
  pub wrote : Wrote 0 old out end (emits s (take i input))
  pub left : reads s (length old) input ≡ i + reads line (length out - end) (drop i input)

module _ {s : Scan} {input old : List ℕ} {i : ℕ} {line : Scan} {out : List ℕ} {end : ℕ} (p : Passed s input old i line out end) where
  -- no room for one more answer
  pub passed_full : length out - end < line_room → Blocked s input old out (record { scan = line; read = i; written = end })
  passed_full h = record { read = omega (arith, p.left, reads_full line (length out - end) (drop i input) h); scan = p.line_is; wrote = p.wrote }

  -- one byte more
  pub passed_more : {line' : Scan} {out' : List ℕ} {end' : ℕ} → i < length input → line_room ≤ length out - end → line' ≡ next_scan line (get_or input i 0)
      → Wrote end out out' end' (emitted line (get_or input i 0)) → Passed s input old (i + 1) line' out' end'
  passed_more {line'} {out'} {end'} h room e w =
      let x = get_or input i 0 in
      let rest = drop (i + 1) input in
      let left : length out' - end' ≡ length out - end - length (emitted line x) = omega (arith, w.ends, wrote_length w) in
      let same = ap (λ (z : Scan). reads z (length out' - end') rest) e ∙ ap (λ (n : ℕ). reads (next_scan line x) n rest) left in
      record {
        line_is = e ∙ ap (λ (z : Scan). next_scan z x) p.line_is ∙ sym (leaves_take s input i h);
        wrote = wrote_as (emits_take s input i h ∙ ap (λ (z : Scan). emits s (take i input) ++ emitted z x) (sym p.line_is)) (wrote_then p.wrote w);
        left = omega (arith, p.left, reads_next line (length out - end) input i h room, same);
      }
