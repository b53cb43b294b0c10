-- A salvage answers what its rule says, and every answer has its rule.
use Rattle.std.specs.Prelude.{◌≡◌, Bool, true, false, List, ℕ, leb, length, Result}
use Rattle.std.proofs.Math.Path.{refl}
use Rattle.std.proofs.Common.{sym, subst, ◌∙◌}
use borrow.Author.Tests.{leb-true, leb-false, le-leb, lt-leb}
use Rattle.refusal.specs.declared.Refusal.{Refusal}
use Rattle.classes.specs.Edges.{edges_valid}
use Rattle.records.specs.Fields.{duv_width}
use Rattle.records.specs.Files.{known_length, most_written, file_length}
use Rattle.records.specs.RefusalLaws.{known_true, true_known, known_false, false_known}
use Rattle.salvage.specs.Salvaging.{kept_in, dropped_in, salvage_outcome}
use Rattle.salvage.specs.Rules.{Taken, Few, Rule, bad_edges, bad_length, too_many, short_file, short_list, salvaged}
use Rattle.salvage.specs.declared.Salvaged.{Salvaged}

module _ (es : List ℕ) (long : ℕ) (l : List ℕ) (file_room list_room : ℕ) where
  abbrev kept : ℕ
  kept = length (kept_in es long l)

  abbrev dropped : ℕ
  dropped = length (dropped_in es long l)

  -- where a rule holds, its answer is given
  pub rule_outcome : (o : Result Salvaged Refusal) → Rule es long l file_room list_room o → salvage_outcome es long l file_room list_room ≡ o
  unfolding salvage_outcome
  rule_outcome o (bad_edges e) = rw e refl
  rule_outcome o (bad_length e h) = rw (e, known_false long h) refl
  rule_outcome o (too_many t h) = rw (t.edges, known_true long t.known, lt-leb kept most_written h) refl
  rule_outcome o (short_file f h) =
      rw (f.taken.edges, known_true long f.taken.known, le-leb kept most_written f.few, lt-leb (file_length duv_width kept) file_room h) refl
  rule_outcome o (short_list f h g) =
      rw (f.taken.edges, known_true long f.taken.known, le-leb kept most_written f.few, le-leb (file_length duv_width kept) file_room h, lt-leb dropped list_room g) refl
  rule_outcome o (salvaged f h g) =
      rw (f.taken.edges, known_true long f.taken.known, le-leb kept most_written f.few, le-leb (file_length duv_width kept) file_room h, le-leb dropped list_room g) refl

  -- and for every answer that is given its rule holds
  pub outcome_rule : (o : Result Salvaged Refusal) → salvage_outcome es long l file_room list_room ≡ o → Rule es long l file_room list_room o
  outcome_rule o e = go (edges_valid es) (known_length long) (leb kept most_written) refl refl refl
    where
      given : {p : Result Salvaged Refusal} → Rule es long l file_room list_room p → Rule es long l file_room list_room o
      given {p} k = subst (Rule es long l file_room list_room) (sym (rule_outcome p k) ∙ e) k

      rooms : Few es long l → (a b : Bool) → leb (file_length duv_width kept) file_room ≡ a → leb dropped list_room ≡ b → Rule es long l file_room list_room o
      rooms f false b x y = given (short_file f (leb-false (file_length duv_width kept) file_room x))
      rooms f true false x y = given (short_list f (leb-true (file_length duv_width kept) file_room x) (leb-false dropped list_room y))
      rooms f true true x y = given (salvaged f (leb-true (file_length duv_width kept) file_room x) (leb-true dropped list_room y))

      taken : edges_valid es ≡ true → known_length long ≡ true → Taken es long
      taken x y = record { edges = x; known = true_known long y }

      go : (a b c : Bool) → edges_valid es ≡ a → known_length long ≡ b → leb kept most_written ≡ c → Rule es long l file_room list_room o
      go false b c x y z = given (bad_edges x)
      go true false c x y z = given (bad_length x (false_known long y))
      go true true false x y z = given (too_many (taken x y) (leb-false kept most_written z))
      go true true true x y z =
          rooms (record { taken = taken x y; few = leb-true kept most_written z }) (leb (file_length duv_width kept) file_room) (leb dropped list_room) refl refl
