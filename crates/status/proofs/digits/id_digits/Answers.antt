use Rattle.std.proofs.Common.{sym, subst}
use Rattle.std.specs.Str.{IsAscii}
use Rattle.status.proofs.Hexadecimal.{IsAscii-encode_lower}
use Rattle.status.proofs.digits.id_digits.Goals as goal

pub invariant_of-result : goal.invariant_of-result
invariant_of-result c = subst IsAscii (sym c.in-Ok.ensures.written) (IsAscii-encode_lower c.args.id.now)
