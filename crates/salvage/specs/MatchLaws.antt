-- When a record matches: what the test says, that the record of an accepted answer does, and that one that does is what is kept of its answer.
use Rattle.std.specs.Prelude.{◌≡◌, List, ℕ, ◌≤◌, eqb, Ok, Some}
use Rattle.std.proofs.Math.Path.{refl, ap}
use Rattle.std.proofs.Common.{sym, ◌∙◌, arith}
use Rattle.std.proofs.Math.Bool.{true}
use borrow.Author.Tests.{eqb-true, eq-eqb}
use Rattle.arith.specs.Same.{same}
use Rattle.arith.specs.SameLaws.{same_true, same_self}
use Rattle.arith.specs.TestLaws.{and_both}
use Rattle.reading.specs.Convert.{Converted, point, convert_micro}
use Rattle.reading.specs.declared.Chromaticity.{Chromaticity}
use Rattle.reading.specs.RefusalLaws.{micro_point}
use Rattle.search.specs.Golden.{most_steps}
use Rattle.cct.specs.Answers.{answer}
use Rattle.cct.specs.Conditions.{Clear}
use Rattle.cct.specs.RefusalLaws.{accepted_clear}
use Rattle.cct.specs.RefinementProof.{is_accepted}
use Rattle.cct.specs.AgainLaws.{same_again}
use Rattle.cct.specs.declared.Answer.{Answer}
use Rattle.kept.specs.Keeping.{record_of, keep}
use Rattle.kept.specs.KeepingLaws.{accepted_kept}
use Rattle.records.specs.declared.fields.Record.{Record}
use Rattle.salvage.specs.Salvaging.{has_fields, answer_to, matches}
use Rattle.salvage.specs.Rules.{Match}

module _ (es : List ℕ) (r : Record) where
  -- a record whose test passes matches
  pub match_true : matches es r ≡ true → Match es r
  unfolding matches has_fields
  match_true e =
      let a = answer_to es r in
      let x = and_both _ (eqb a.class r.class) e in
      let y = and_both _ (eqb a.steps r.steps) x.0 in
      let z = and_both _ (same a.duv r.duv) y.0 in
      let h = and_both _ (eqb a.high r.high) z.0 in
      let l = and_both _ (eqb a.low r.low) h.0 in
      let p = and_both (eqb a.refusal 0) (eqb a.place r.place) l.0 in
      record {
        accepted = eqb-true a.refusal 0 p.0;
        place = eqb-true a.place r.place p.1;
        low = eqb-true a.low r.low l.1;
        high = eqb-true a.high r.high h.1;
        duv = same_true a.duv r.duv z.1;
        steps = eqb-true a.steps r.steps y.1;
        class = eqb-true a.class r.class x.1;
      }

  -- and the test of one that matches passes
  pub true_match : Match es r → matches es r ≡ true
  unfolding matches has_fields
  true_match m =
      let a = answer_to es r in
      let duv : same a.duv r.duv ≡ true = ap (same a.duv) (sym m.duv) ∙ same_self a.duv in
      rw (eq-eqb a.refusal 0 m.accepted, eq-eqb a.place r.place m.place, eq-eqb a.low r.low m.low, eq-eqb a.high r.high m.high, duv, eq-eqb a.steps r.steps m.steps, eq-eqb a.class r.class m.class) refl

  -- a record that matches is the one that is kept of its answer
  pub matched_kept : Match es r → keep r.u r.v (answer_to es r) ≡ Some r
  matched_kept m =
      accepted_kept r.u r.v es (convert_micro r.u r.v) r.steps m.accepted
      ∙ (λ i. Some (record { u = r.u; v = r.v; place = m.place i; low = m.low i; high = m.high i; duv = m.duv i; steps = m.steps i; class = m.class i }))

-- a record of more than 14 steps matches under no edges
pub match_steps : (es : List ℕ) (r : Record) → Match es r → r.steps ≤ most_steps
match_steps es r m =
    let c = convert_micro r.u r.v in
    accepted_clear es c r.steps m.accepted (λ u v k. omega (arith, m.steps, (is_accepted es c u v k r.steps).count))

module _ (es : List ℕ) (c : Converted) (u v : ℕ) (k : Clear es c u v) where
  clear_matches : (n : ℕ) → Match es (record_of u v (answer es c n))
  clear_matches n =
      let e = same_again es c u v k n in
      record {
        accepted = ap (λ (a : Answer). a.refusal) e ∙ (is_accepted es c u v k n).number;
        place = ap (λ (a : Answer). a.place) e;
        low = ap (λ (a : Answer). a.low) e;
        high = ap (λ (a : Answer). a.high) e;
        duv = ap (λ (a : Answer). a.duv) e;
        steps = ap (λ (a : Answer). a.steps) e;
        class = ap (λ (a : Answer). a.class) e;
      }

-- the record that was kept of an accepted answer, to whatever was converted to u and v and at whatever allowance, matches under the same edges
pub saved_matches : (es : List ℕ) (c : Converted) (u v n : ℕ) → c ≡ Ok (point u v) → (answer es c n).refusal ≡ 0 → Match es (record_of u v (answer es c n))
saved_matches es c u v n p e = accepted_clear es c n e go
  where
    go : (x y : ℕ) → Clear es c x y → Match es (record_of u v (answer es c n))
    go x y k =
        let same : point x y ≡ point u v = cc k.at.point in
        let f : x ≡ u = ap (λ (q : Chromaticity). q.u) same in
        let g : y ≡ v = ap (λ (q : Chromaticity). q.v) same in
        rw (f, g) at (clear_matches es c x y k n)

-- so does the record of u and v that were given as whole numbers
pub micro_matches : (es : List ℕ) (u v n : ℕ) → (answer es (convert_micro u v) n).refusal ≡ 0 → Match es (record_of u v (answer es (convert_micro u v) n))
micro_matches es u v n e =
    let c = convert_micro u v in
    saved_matches es c u v n (accepted_clear es c n e (λ x y k. micro_point u v x y k.at.point)) e
