-- No fault line begins as a line does that acknowledges samples, with the letter h.
use Rattle.std.proofs.Common.{◌≡◌, ◌≢◌, ℕ, List, [], ◌∷◌, ap, arith}
use Rattle.status.specs.declared.status.Status.{Status}
use Rattle.status.specs.declared.status.Status.TheVariants.{Done, Usage, Config, Store, Recording, Torn, ReadFault, WriteFault, DiskFault, OutOfMemory, TooLong, Differs}
use Rattle.status.specs.fault_lines.FaultLine.{fault_line}

abbrev first : List ℕ → ℕ
first [] = 0
first (x ∷ xs) = x

pub fault_line-no_h : (s : Status) (name rest : List ℕ) → fault_line s name ≢ 104 ∷ rest
fault_line-no_h Done name rest = λ is. let e : 0 ≡ 104 = ap first is in omega (arith, e)
fault_line-no_h Usage name rest = λ is. let e : 117 ≡ 104 = ap first is in omega (arith, e)
fault_line-no_h (Config fault) name rest = λ is. let e : 99 ≡ 104 = ap first is in omega (arith, e)
fault_line-no_h (Store fault) name rest = λ is. let e : 115 ≡ 104 = ap first is in omega (arith, e)
fault_line-no_h (Recording gauge fault) name rest = λ is. let e : 114 ≡ 104 = ap first is in omega (arith, e)
fault_line-no_h (Torn gauge bytes) name rest = λ is. let e : 114 ≡ 104 = ap first is in omega (arith, e)
fault_line-no_h ReadFault name rest = λ is. let e : 114 ≡ 104 = ap first is in omega (arith, e)
fault_line-no_h WriteFault name rest = λ is. let e : 119 ≡ 104 = ap first is in omega (arith, e)
fault_line-no_h DiskFault name rest = λ is. let e : 115 ≡ 104 = ap first is in omega (arith, e)
fault_line-no_h OutOfMemory name rest = λ is. let e : 111 ≡ 104 = ap first is in omega (arith, e)
fault_line-no_h (TooLong gauge) name rest = λ is. let e : 114 ≡ 104 = ap first is in omega (arith, e)
fault_line-no_h (Differs gauge what held found) name rest = λ is. let e : 97 ≡ 104 = ap first is in omega (arith, e)
