-- What std says of known bytes, said of the bytes.
use Rattle.std.proofs.Common.{◌≡◌, ◌++◌, ℕ, List, [], length, refl, sym, ap, subst, ◌∙◌, arith, append-nil}
use Rattle.std.proofs.Math.Seq.{take-append_seam}
use Rattle.std.proofs.lemmas.List.{length-replicate}
use Rattle.std.specs.Prelude.{Bool, true, false, if◌then◌else◌, ◌==◌, Option, Some, None, IsSome, take, replicate, Result, Ok}
use Rattle.std.specs.Io.Buffered.{reader_remaining, reader_capacity}
use Rattle.std.specs.Io.KnownBytes.{Consumes, Keeps, Appends, IsAtEnd, WriteAppends}
use Rattle.std.specs.declared.io.buffered.BufReader.{BufReader}
use Rattle.adapters.specs.Known.{bytes_of}
use Rattle.outside.specs.Sink.{AppendsPrefix}

pub consumed : (before after : Option (List ℕ)) (front : List ℕ) → IsSome before → Consumes before after front →
    bytes_of before ≡ front ++ bytes_of after
consumed None after front s c = grind (arith, s)
consumed (Some xs) None front s c = absurd c
consumed (Some xs) (Some ys) front s c = c

pub kept : (before after : Option (List ℕ)) → IsSome before → Keeps before after → bytes_of after ≡ bytes_of before
kept None after s k = grind (arith, s)
kept (Some xs) None s k = absurd k
kept (Some xs) (Some ys) s k = k

-- a write that took nothing
pub none_written : {E : Type 0} (before after : Option (List ℕ)) (result : Result ℕ E) (buf : List ℕ) (n : ℕ) → IsSome before →
    result ≡ Ok n → n ≡ 0 → WriteAppends before after result buf → bytes_of after ≡ bytes_of before
none_written before after result buf n s is none w = nothing before after s
    (subst (λ k. Appends before after (take k buf)) none (subst (λ r. WriteAppends before after r buf) is w))
  where
    nothing : (before after : Option (List ℕ)) → IsSome before → Appends before after [] → bytes_of after ≡ bytes_of before
    nothing None after s a = grind (arith, s)
    nothing (Some xs) None s a = absurd a
    nothing (Some xs) (Some ys) s a = a ∙ append-nil xs

pub at_end : (left : Option (List ℕ)) → IsAtEnd left → bytes_of left ≡ []
at_end None e = refl
at_end (Some xs) e = e

-- a front of the bytes was written
pub prefix : (before after bytes front rest : List ℕ) → bytes ≡ front ++ rest → after ≡ before ++ front → AppendsPrefix before after bytes
prefix before after bytes front rest is w =
    (length front, w ∙ ap (λ l. before ++ l) (sym (ap (take (length front)) is ∙ take-append_seam front rest)))

-- bytes that nobody knows were passed over
pub unknown_passed : (before after : Option (List ℕ)) (n : ℕ) → before ≡ None → (bs : List ℕ) × Consumes before after bs × (length bs ≡ n)
unknown_passed None after n none = (replicate n 0, _, length-replicate n 0)
unknown_passed (Some xs) after n none = absurd (cc)

-- whether there is a buffer or none
by_capacity : (b : Bool) → ◌≡◌ {A = Option (List ℕ)} (if b then None else None) None
by_capacity true = refl
by_capacity false = refl

-- of a reader that doesn't tell, what is read ahead doesn't either
pub unknown_ahead : {T A : Type 0} (r : BufReader T A) → reader_remaining (λ _. None) r ≡ None
unknown_ahead r = by_capacity (reader_capacity r == 0)
