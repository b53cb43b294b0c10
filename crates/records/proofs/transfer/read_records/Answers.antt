use Rattle.std.proofs.Common.{sym, arith}
use Rattle.std.proofs.lemmas.Result.{err_from_is_err_and}
use Rattle.records.specs.Slices.{held_mut}
use Rattle.records.proofs.Numbers.{each_byte}
use Rattle.records.proofs.Transfers.{short_read, done_read, laid_out, file_holds, target_read, again_read, bad_read}
use Rattle.records.proofs.transfer.read_records.Goals as goal

pub returns-in_err-form-clause-outcome : goal.returns-in_err-form-clause-outcome
returns-in_err-form-clause-outcome c =
    let p = err_from_is_err_and c.from_residual.result c.from_residual.ensures.1 in
    rw (p.1, p.2) (bad_read c.args.file.now _ _ (sym c.in_err-form.ensures.form))

pub returns-in_err-layout-clause-outcome : goal.returns-in_err-layout-clause-outcome
returns-in_err-layout-clause-outcome c = laid_out c.args.file.now _ _ 0 (sym c.in_ok-form.ensures.form) c.in_err-layout.ensures

pub returns-then-len-form-clause-outcome : goal.returns-then-len-form-clause-outcome
returns-then-len-form-clause-outcome c = short_read c.args.file.now _ _ _ (sym c.in_ok-form.ensures.form) (omega (arith, c.len.ensures.length))

pub fill_rows-requires : goal.fill_rows-requires
fill_rows-requires c =
    (omega (arith, c.len.ensures.length), file_holds c.args.file.now _ _ 0 (sym c.in_ok-form.ensures.form) c.in_ok-layout.layout c.in_ok-layout.ensures)

pub returns-clause-outcome : goal.returns-clause-outcome
returns-clause-outcome c = done_read c.args.file.now _ _ _ (sym c.in_ok-form.ensures.form) (omega (arith, c.len.ensures.length))

pub returns-clause-target : goal.returns-clause-target
returns-clause-target c =
    target_read c.args.file.now _ _ 0 (sym c.in_ok-form.ensures.form) c.in_ok-layout.layout c.in_ok-layout.ensures (held_mut c.args.columns.now) c.fill_rows.ensures.target

pub returns-clause-again : goal.returns-clause-again
returns-clause-again c = again_read c.args.file.now _ _ 0 (sym c.in_ok-form.ensures.form) (each_byte c.args.file.now c.type_inv.file)
