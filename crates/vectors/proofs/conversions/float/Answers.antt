-- The pattern of a NaN lies above infinity's once the sign is dropped.
use Rattle.std.proofs.Common.{◌%◌, ltb, arith, ltb→lt}
use lib.Dec.{not_T}
use lib.Ieee.Bits.{nan_bits_above}
use Rattle.vectors.proofs.conversions.float.Goals as goal

pub float_from_bits-result : goal.float_from_bits-result
float_from_bits-result c = let n = c.args.bits % 2147483648 in rw nan_bits_above (not_T (ltb 2139095040 n) (λ t. omega (arith, ltb→lt 2139095040 n t)))
