use Rattle.std.proofs.Common.{sym, length, arith}
use Rattle.records.specs.RefusalLaws.{write_done}
use Rattle.records.proofs.transfer.close_file.Goals as goal

pub overflow_mul-n : goal.overflow_mul-n
overflow_mul-n c = omega (arith, write_done c.args.n (length c.args.file.now) _ (sym c.in_ok-end.ensures))

pub put_trailer-requires : goal.put_trailer-requires
put_trailer-requires c = let k = write_done c.args.n (length c.args.file.now) _ (sym c.in_ok-end.ensures) in (k.0, omega (arith, k.1))
