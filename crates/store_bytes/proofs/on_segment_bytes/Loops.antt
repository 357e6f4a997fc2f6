-- Reading one after the other, as a loop does.
use Rattle.std.proofs.Common.{◌≡◌, ℕ, suc, ◌-◌, ◌+◌, ◌≤◌, ◌<◌, List, [], ◌∷◌, ◌++◌, Result, Ok, Err, refl, sym, ap, ◌∙◌, append_assoc, arith}
use Rattle.std.proofs.lemmas.List.{append-nil}
use Rattle.store_bytes.specs.declared.segment_bytes.fault.BytesFault.{BytesFault}
use Rattle.store_bytes.specs.declared.segment_bytes.fault.BytesFault.TheVariants.{OutOfMemory}
use Rattle.store_bytes.specs.segment_bytes.Fields.{◌>>=◌, FailsWith, Reader, entry_list}

-- what was read before, and what is still read
abbrev pub with_front : {A : Type 0} → List A → Result (List A × List ℕ) BytesFault → Result (List A × List ℕ) BytesFault
with_front front read = read >>= λ x. Ok (front ++ x.0, x.1)

module _ {A : Type 0} where
  regroup : (front : List A) (n : A) (read : Result (List A × List ℕ) BytesFault)
      → with_front front (read >>= λ x. Ok (n ∷ x.0, x.1)) ≡ with_front (front ++ n ∷ []) read
  regroup front n (Ok x) = ap (λ (ns : List A). Ok (ns, x.1)) (simp append_assoc)
  regroup front n (Err f) = refl

  module _ (one : Reader A) (have : ℕ) where
    pub goes_on : (front : List A) (count i : ℕ) (bytes : List ℕ) (n : A) (after : List ℕ) (total : Result (List A × List ℕ) BytesFault)
        → i < count → one have bytes ≡ Ok (n, after)
        → with_front front (entry_list one (count - i) have bytes) ≡ total
        → with_front (front ++ n ∷ []) (entry_list one (count - (i + 1)) have after) ≡ total
    unfolding entry_list
    goes_on front count i bytes n after total lt h so_far =
        let k : count - i ≡ suc (count - (i + 1)) = omega arith in
        let one_more : with_front front (entry_list one (count - i) have bytes) ≡ with_front (front ++ n ∷ [])
        (entry_list one (count - (i + 1)) have after) = rw (k, h) (regroup front n (entry_list one (count - (i + 1)) have after)) in
        sym one_more ∙ so_far

    pub ends : (e : BytesFault) (front : List A) (count i : ℕ) (bytes : List ℕ) (total : Result (List A × List ℕ) BytesFault) → i < count
        → FailsWith e (one have bytes)
        → with_front front (entry_list one (count - i) have bytes) ≡ total → FailsWith e total
    unfolding entry_list
    ends OutOfMemory front count i bytes total lt h so_far = tt
    ends f front count i bytes total lt h so_far =
        let k : count - i ≡ suc (count - (i + 1)) = omega arith in
        let stops : with_front front (entry_list one (count - i) have bytes) ≡ Err f = rw (k, h) refl in
        sym so_far ∙ stops

    pub is_done : (front : List A) (count i : ℕ) (bytes : List ℕ) (total : Result (List A × List ℕ) BytesFault) → count ≤ i
        → with_front front (entry_list one (count - i) have bytes) ≡ total → total ≡ Ok (front, bytes)
    unfolding entry_list
    is_done front count i bytes total le so_far =
        let k : count - i ≡ 0 = omega arith in
        let all : with_front front (entry_list one (count - i) have bytes) ≡ Ok (front, bytes) = rw k
        (ap (λ (ns : List A). Ok (ns, bytes)) (append-nil front)) in
        sym so_far ∙ all

-- ---- the same, with what was read seen as something else

-- what is still read, seen with what was read before
abbrev pub seen : {A B : Type 0} → (A → B) → Result (A × List ℕ) BytesFault → Result (B × List ℕ) BytesFault
seen f read = read >>= λ x. Ok (f x.0, x.1)

abbrev failed : {B : Type 0} → BytesFault → Result B BytesFault
failed d = Err d

pub fails_seen : {A B : Type 0} (e : BytesFault) (f : A → B) (read : Result (A × List ℕ) BytesFault) → FailsWith e (seen f read)
    → FailsWith e read
fails_seen OutOfMemory f read h = tt
fails_seen e f (Ok x) h = absurd cc
fails_seen e f (Err d) h = let same : d ≡ e = cc in ap failed same

pub seen_fails : {A B : Type 0} (e : BytesFault) (f : A → B) (read : Result (A × List ℕ) BytesFault) → FailsWith e read
    → FailsWith e (seen f read)
seen_fails OutOfMemory f read h = tt
seen_fails e f read h = ap (seen f) h

module _ {A B : Type 0} where
  seen_one : (f g : List A → B) (n : A) → ((ns : List A) → f (n ∷ ns) ≡ g ns) → (read : Result (List A × List ℕ) BytesFault)
      → seen f (read >>= λ x. Ok (n ∷ x.0, x.1)) ≡ seen g read
  seen_one f g n same (Ok x) = ap (λ (v : B). Ok (v, x.1)) (same x.0)
  seen_one f g n same (Err d) = refl

  module _ (one : Reader A) (have : ℕ) where
    pub seen_on : (f g : List A → B) (count i : ℕ) (bytes : List ℕ) (n : A) (after : List ℕ)
        (total : Result (B × List ℕ) BytesFault) → i < count → ((ns : List A) → f (n ∷ ns) ≡ g ns)
        → one have bytes ≡ Ok (n, after) → seen f (entry_list one (count - i) have bytes) ≡ total
        → seen g (entry_list one (count - (i + 1)) have after) ≡ total
    unfolding entry_list
    seen_on f g count i bytes n after total lt same h so_far =
        let k : count - i ≡ suc (count - (i + 1)) = omega arith in
        let one_more : seen f (entry_list one (count - i) have bytes) ≡ seen g (entry_list one (count - (i + 1)) have after) = rw (k, h)
        (seen_one f g n same (entry_list one (count - (i + 1)) have after)) in
        sym one_more ∙ so_far

    pub seen_ends : (e : BytesFault) (f : List A → B) (count i : ℕ) (bytes : List ℕ) (total : Result (B × List ℕ) BytesFault)
        → i < count → FailsWith e (one have bytes) → seen f (entry_list one (count - i) have bytes) ≡ total → FailsWith e total
    unfolding entry_list
    seen_ends OutOfMemory f count i bytes total lt h so_far = tt
    seen_ends e f count i bytes total lt h so_far =
        let k : count - i ≡ suc (count - (i + 1)) = omega arith in
        let stops : seen f (entry_list one (count - i) have bytes) ≡ Err e = rw (k, h) refl in
        sym so_far ∙ stops

    pub seen_done : (f : List A → B) (count i : ℕ) (bytes : List ℕ) (total : Result (B × List ℕ) BytesFault) → count ≤ i
        → seen f (entry_list one (count - i) have bytes) ≡ total → total ≡ Ok (f [], bytes)
    unfolding entry_list
    seen_done f count i bytes total le so_far =
        let k : count - i ≡ 0 = omega arith in
        let all : seen f (entry_list one (count - i) have bytes) ≡ Ok (f [], bytes) = rw k refl in
        sym so_far ∙ all
