-- Laws of appending to the output: two appends in a row are one.
use Rattle.std.proofs.Common.{◌≡◌, ℕ, List, ◌++◌, ◌∙◌}
use Rattle.text.specs.declared.print.Output.{Output}
use Rattle.text.specs.Code.Put.{Put}
use Rattle.text.specs.WroteLaws.{wrote_then}

-- two appends in a row
pub put_then : {a b c : Output} {xs ys : List ℕ} → Put a b xs → Put b c ys → Put a c (xs ++ ys)
put_then f g = record { wrote = wrote_then f.wrote g.wrote; long = g.long ∙ f.long; same = g.same ∙ f.same }

-- the same text by another name
pub put_as : {a b : Output} {xs ys : List ℕ} → xs ≡ ys → Put a b ys → Put a b xs
put_as e p = rw e p
