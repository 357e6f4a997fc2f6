-- How a run of station calls goes on.
use Rattle.std.proofs.Common.{inl, inr, ⊎_elim, ℕ, refl, sym, subst, arith}
use Rattle.outside.specs.station.Station.{Image, Lines, IsMoment, MomentsSince, Elapses, Since, IsTornWrite}

-- before the first call
pub started : (start : ℕ) (past : MomentsSince) (P : IsMoment) → ((lines : Lines) (c : Image) → past start lines c → P lines c)
    → Since start past start past P
started start past P here = record { later = omega arith; each = here; before = λ t lines c le was. inl was }

-- one call more, after which the lines told and each image have P
pub goes_on : (start mid now : ℕ) (past between since : MomentsSince) (P : IsMoment) (told : Lines) (leaves : Image → Type 0)
    → Since start past mid between P → Elapses mid now between since told leaves
    → ((c : Image) → leaves c → P told c) → Since start past now since P
goes_on start mid now past between since P told leaves so_far time here = record {
  later = omega (arith, so_far.later, time.later);
  each = λ lines c was. ⊎_elim (so_far.each lines c) (λ new. subst
      (λ l. P l c) (sym new.0) (here c new.1)) (time.nothing_else start lines c so_far.later was);
  before = λ t lines c le was. ⊎_elim (so_far.before t lines c le)
      (λ new. inr (subst (λ l. P l c) (sym new.0) (here c new.1))) (time.nothing_else t lines c (omega (arith, le, so_far.later)) was);
}

-- a run with a statement of its own, which entails P
pub continues : (start mid now : ℕ) (past between since : MomentsSince) (P Q : IsMoment)
    → Since start past mid between P → Since mid between now since Q
    → ((lines : Lines) (c : Image) → Q lines c → P lines c) → Since start past now since P
continues start mid now past between since P Q so_far next here = record {
  later = omega (arith, so_far.later, next.later);
  each = λ lines c was. ⊎_elim (so_far.each lines c) (here lines c) (next.before start lines c so_far.later was);
  before = λ t lines c le was. ⊎_elim (so_far.before t lines c le)
      (λ q. inr (here lines c q)) (next.before t lines c (omega (arith, le, so_far.later)) was);
}

-- nothing torn is a write torn
pub same_torn : (at n : ℕ) (c : Image) → IsTornWrite at n c c
same_torn at n c = record { before = refl; after = refl; no_shorter = omega arith; no_longer = omega arith }

-- a statement that entails another
pub entails : (start now : ℕ) (past since : MomentsSince) (P Q : IsMoment) → Since start past now since Q
    → ((lines : Lines) (c : Image) → Q lines c → P lines c) → Since start past now since P
entails start now past since P Q run here =
    record {
      later = run.later;
      each = λ lines c was. here lines c (run.each lines c was);
      before =
          λ t lines c le was. ⊎_elim (λ old. inl old) (λ q. inr (here lines c q)) (run.before t lines c le was);
    }
