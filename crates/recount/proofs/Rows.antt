-- Half units that are compared row by row.
--   AreSameBelow   the rows of the lower levels before this one are the same
--   row_more       a row more is the same
--   all_rows       all rows are
--   first_of       the first pair that is other in the first row that is
use Rattle.std.proofs.Common.{◌≡◌, ◌≢◌, ◌<◌, ◌+◌, ℕ, ◌⊎◌, inl, inr, sym, ◌∙◌, subst, arith}
use Rattle.recount.specs.Compared.{AreSame, AreSameFrom, IsFirstOther}

abbrev pub AreSameBelow : ℕ → ℕ → (ℕ → ℕ → ℕ) → (ℕ → ℕ → ℕ) → Type 0
AreSameBelow lo classes held found = (a b : ℕ) → a < lo → a < b → b < classes → held a b ≡ found a b

last_or_before : (a lo : ℕ) → a < lo + 1 → (a < lo) ⊎ (a ≡ lo)
last_or_before a lo less = grind (arith, less)

module _ (classes lo : ℕ) (held found : ℕ → ℕ → ℕ) (row : ℕ → ℕ) (before : AreSameBelow lo classes held found)
    (is : (hi : ℕ) → lo < hi → hi < classes → row hi ≡ held lo hi) where
  pub row_more : AreSameFrom lo classes row (found lo) → AreSameBelow (lo + 1) classes held found
  row_more same = λ a b less up inside. elim (last_or_before a lo less) [
    | inl earlier ↦ before a b earlier up inside
    | inr now ↦ subst (λ (k : ℕ). k < b → held k b ≡ found k b) (sym now) (λ above. sym (is b above inside) ∙ same b above inside) up
  ]

  pub first_of : (hi : ℕ) → lo < hi → hi < classes → row hi ≢ found lo hi → AreSameFrom lo hi row (found lo)
      → IsFirstOther classes held found lo hi
  first_of hi above inside other same = record {
    ordered = above;
    within = inside;
    differ = λ e. other (is hi above inside ∙ e);
    before = λ a b up within earlier. elim earlier [
      | inl less ↦ before a b less up within
      | inr at ↦ subst (λ (k : ℕ). k < b → held k b ≡ found k b) (sym at.0) (λ over. sym (is b over within) ∙ same b over at.1) up
    ];
  }

pub all_rows : (classes : ℕ) (held found : ℕ → ℕ → ℕ) → AreSameBelow classes classes held found → AreSame classes held found
all_rows classes held found same = λ lo hi up inside. same lo hi (omega (arith, up, inside)) up inside
