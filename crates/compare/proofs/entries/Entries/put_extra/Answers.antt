-- `put_extra` meets its contract: each turn adds the entry of one record.
use Rattle.std.proofs.Common.{◌≡◌, ℕ, ◌-◌, ◌∙◌, subst, arith}
use Rattle.compare.specs.Differences.{extra}
use Rattle.compare.specs.EntryLaws.{extra_length}
use Rattle.compare.specs.Code.Puts.{Put}
use Rattle.compare.proofs.Stores.{put_length}
use Rattle.compare.proofs.Turns.{extra_put}
use Rattle.compare.proofs.entries.Entries.put_extra.Goals as goal

pub put-requires : goal.put-requires
put-requires c =
    let a = c.args in
    let l = c.loop-i in
    let p = l.invariant.put in
    (omega arith, c.requires.0, omega (arith, c.requires.2, p.next, put_length p, extra_length a.field a.from (l.i - a.from)))

pub loop-i-preserved : goal.loop-i-preserved
loop-i-preserved c =
    let a = c.args in
    let l = c.loop-i in
    record { within = omega arith; put = extra_put a.field a.from l.i (omega arith) l.invariant.put c.put.ensures.put; same = c.put.ensures.same ∙ l.invariant.same }

pub returns-clause-put : goal.returns-clause-put
returns-clause-put c =
    let a = c.args in
    let l = c.loop-i in
    let e : l.i - a.from ≡ a.to - a.from = omega arith in
    subst (λ (n : ℕ). Put a.self.now.target.now l.self.target.now a.self.now.end l.self.end (extra a.field a.from n)) e l.invariant.put
