-- Which lines were told, by the answer.
--   where_both       a fact for these answers, by another one
--   acknowledged_by  and then the line of the answer
use Rattle.std.proofs.Common.{◌≡◌, ◌⊎◌, ⊎_elim, inl, inr, ℕ, List, [], ◌∷◌, ◌++◌, refl, sym, subst}
use Rattle.outside.specs.station.Station.{Lines}
use Rattle.site_config.specs.recorded.Recorded.{Recorded}
use Rattle.status.specs.declared.status.Status.{Status}
use Rattle.status.specs.declared.status.Status.TheVariants.{Done, Usage, Config as BadConfig, Store as BadStore, Recording, Torn, ReadFault, WriteFault, DiskFault, OutOfMemory, TooLong, Differs}
use Rattle.count_command.specs.declared.course.Course.{Course}
use Rattle.count_command.specs.Acknowledging.{WhereCounted, TellsAll, AcknowledgesBy}

pub where_both : {U V P Q : Type 0} → (V → U) → (P → Q) → (s : Status) → WhereCounted s U P → WhereCounted s V Q
where_both f h Done p = h p
where_both f h WriteFault p = h p
where_both f h (Torn g b) p = λ v. h (p (f v))
where_both f h Usage p = tt
where_both f h (BadConfig x) p = tt
where_both f h (BadStore x) p = tt
where_both f h (Recording g x) p = tt
where_both f h ReadFault p = tt
where_both f h DiskFault p = tt
where_both f h OutOfMemory p = tt
where_both f h (TooLong g) p = tt
where_both f h (Differs g x y z) p = tt

-- what was told is this, and behind it at most the line of the answer, which has none with `Done`
module _ (course : Course) (U : Type 0) (block : ℕ) (r : Recorded) (n : List ℕ) (told : Lines) (line : List ℕ) (told2 told3 : Lines)
    (at_most : (told3 ≡ told2) ⊎ (told3 ≡ told2 ++ line ∷ [])) where
  up_to : (P : Lines → Type 0) → P told2 → P told3 ⊎ ((before : Lines) × (told3 ≡ before ++ line ∷ []) × P before)
  up_to P a = ⊎_elim (λ same. inl (subst P (sym same) a)) (λ next. inr (told2, next, a)) at_most

  pub acknowledged_by : (s : Status) → (s ≡ Done → told3 ≡ told2) → WhereCounted s U (TellsAll course s block r n told told2) →
      AcknowledgesBy course s U block r n told line told3
  acknowledged_by Done none a = subst (TellsAll course Done block r n told) (sym (none refl)) a
  acknowledged_by WriteFault none a = up_to (TellsAll course WriteFault block r n told) a
  acknowledged_by (Torn g b) none a = λ u. up_to (TellsAll course (Torn g b) block r n told) (a u)
  acknowledged_by Usage none a = tt
  acknowledged_by (BadConfig x) none a = tt
  acknowledged_by (BadStore x) none a = tt
  acknowledged_by (Recording g x) none a = tt
  acknowledged_by ReadFault none a = tt
  acknowledged_by DiskFault none a = tt
  acknowledged_by OutOfMemory none a = tt
  acknowledged_by (TooLong g) none a = tt
  acknowledged_by (Differs g x y z) none a = tt
