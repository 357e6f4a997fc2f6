-- How the reading of a lane goes on and ends.
use Rattle.std.proofs.Common.{◌≡◌, ◌≢◌, ◌≤◌, ◌<◌, ℕ, ◌+◌, ◌-◌, ◌*◌, List, length, drop, refl, sym, ap, ◌∙◌, subst, arith, length-drop, ◌⊎◌, inl, inr}
use Rattle.std.proofs.lemmas.List.{drop-drop}
use Rattle.std.proofs.lemmas.Bool.Decides.{nat_tests}
use Rattle.std.proofs.Math.Nat.{mul-add}
use Rattle.std.specs.Prelude.{min}
use Rattle.recording.specs.declared.ends.FillEnd.{FillEnd}
use Rattle.recording.specs.declared.ends.FillEnd.TheVariants.{More as Full, Failed}
use Rattle.recording.specs.Samples.{samples, torn_bytes}
use Rattle.recording.specs.Filling.{end_of, Takes}
use Rattle.recording.proofs.SampleLists.{length-samples, samples-drop, torn_bytes-drop}
use Rattle.recording.specs.declared.lane_ends.end.End.{End}
use Rattle.recording.specs.declared.lane_ends.end.End.TheVariants.{More, ReadFault, Ended, Torn, TooLong}
use Rattle.recording.specs.lane_ends.Ends.{end_past_limit, lane_end, IsRead}

not_failed : Full ≢ Failed
not_failed q = cc

enough : (room : ℕ) (before : List ℕ) → Full ≡ end_of room before → room ≤ length (samples before)
enough room before e = grind (arith, nat_tests, e)

-- all samples that a recording may have came, and what follows was looked at
pub gives_past : (room wanted most n : ℕ) (before mid after : List ℕ) (f : FillEnd) (e : End) → room ≡ min wanted most → room ≢ wanted
    → f ≡ Full → Takes room before n f mid → (e ≢ ReadFault → e ≡ end_past_limit mid) → e ≢ More → IsRead wanted most before n e after
gives_past room wanted most n before mid after f e is less full taken past some =
    let t : Takes room before n Full mid = subst (λ x. Takes room before n x mid) full taken in
    let all = t.count not_failed in
    let have : room ≤ length (samples before) = enough room before (t.ends not_failed) in
    let inside : 4 * room ≤ length before = omega (arith, have, length-samples before) in
    let rest : length (samples mid) ≡ length (samples before) - room = ap (λ l. length (samples l)) (t.left not_failed)
    ∙ ap length (samples-drop room before) ∙ length-drop room (samples before) in
    let part : torn_bytes mid ≡ torn_bytes before = ap torn_bytes (t.left not_failed) ∙ torn_bytes-drop room before inside in
    let limit : most < wanted = omega (arith, is, less) in
    let at : room ≡ most = omega (arith, is, less) in
    let same : end_past_limit mid ≡ lane_end wanted most before = grind (arith, nat_tests, have, rest, part, limit, at) in
    record {
      few = (omega (arith, all, is), omega (arith, all, is), omega (arith, all));
      ends = λ q. past q ∙ same;
      count = λ q. omega (arith, all, have, limit, at);
      left = λ q. absurd (some q);
    }

-- whole samples of a lane, and then what is left of it
module _ (m room most n : ℕ) (before mid after : List ℕ) (e : End) (have : m ≤ length (samples before)) (within : m ≤ most)
    (is : mid ≡ drop (4 * m) before) (g : IsRead room (most - m) mid n e after) where
  inside : 4 * m ≤ length before
  inside = omega (arith, have, length-samples before)

  rest : length (samples mid) ≡ length (samples before) - m
  rest = ap (λ l. length (samples l)) is ∙ ap length (samples-drop m before) ∙ length-drop m (samples before)

  part : torn_bytes mid ≡ torn_bytes before
  part = ap torn_bytes is ∙ torn_bytes-drop m before inside

  same_end : lane_end room (most - m) mid ≡ lane_end (m + room) most before
  same_end = let r = rest in let p = part in grind (arith, nat_tests, have, within, r, p)

  pub gives_more : IsRead (m + room) most before (m + n) e after
  gives_more = record {
    few = (omega (arith, g.few.0), omega (arith, g.few.1, within), omega (arith, g.few.2, rest, have));
    ends = λ q. g.ends q ∙ same_end;
    count = λ q. (let c = g.count q in let r = rest in omega (arith, c, r, have, within));
    left = λ q. g.left q ∙ ap (drop (4 * room)) is ∙ drop-drop (4 * room) (4 * m) before ∙ ap (λ k. drop k before) (sym (mul-add 4 m room));
  }

-- where it has ended, more samples could have been wanted
pub gives_wider : (room wider most n : ℕ) (before after : List ℕ) (e : End) → e ≢ More → room ≤ wider → IsRead room most before n e after
    → IsRead wider most before n e after
gives_wider room wider most n before after e some fits g = record {
  few = (omega (arith, g.few.0, fits), g.few.1, g.few.2);
  ends = λ q. g.ends q ∙ wide q;
  count = λ q. (let c = g.count q in let f = short q in omega (arith, c, f, fits));
  left = λ q. absurd (some q);
}
  where
    short : e ≢ ReadFault → min most (length (samples before)) < room
    short q = let is = g.ends q in grind (arith, nat_tests, is, some)

    wide : e ≢ ReadFault → lane_end room most before ≡ lane_end wider most before
    wide q = let f = short q in grind (arith, nat_tests, f, fits)

-- nothing was wanted yet
pub gives_none : (most : ℕ) (before : List ℕ) → IsRead 0 most before 0 More before
gives_none most before =
    record {
      few = (omega arith, omega arith, omega arith);
      ends = λ q. grind (arith, nat_tests);
      count = λ q. omega arith;
      left =
          λ q. refl;
    }

-- a lane may go on or has ended
pub more_or_not : (e : End) → (e ≡ More) ⊎ (e ≢ More)
more_or_not More = inl refl
more_or_not Ended = inr (λ e. absurd cc)
more_or_not (Torn b) = inr (λ e. absurd cc)
more_or_not ReadFault = inr (λ e. absurd cc)
more_or_not TooLong = inr (λ e. absurd cc)
