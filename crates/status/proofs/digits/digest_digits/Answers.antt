use Rattle.std.proofs.Common.{◌≡◌, take, sym, ap, ◌∙◌, subst, arith}
use Rattle.std.proofs.lemmas.List.{take_all}
use Rattle.std.specs.Str.{IsAscii}
use Rattle.hex.specs.Hex.{encode_lower}
use Rattle.status.proofs.Hexadecimal.{IsAscii-encode_lower}
use Rattle.status.proofs.digits.digest_digits.Goals as goal

pub returns : goal.returns
returns c =
    let whole : take 32 c.args.digest.now ≡ c.args.digest.now = take_all 32 c.args.digest.now (omega (arith, c.told-digest)) in
    c.in-Ok.ensures.written ∙ sym (ap encode_lower whole)

pub invariant_of-result : goal.invariant_of-result
invariant_of-result c = subst IsAscii (sym c.in-Ok.ensures.written) (IsAscii-encode_lower c.args.digest.now)
