-- What a run of `watch` has done where memory ran out.
--   or_still   where nothing was stored
--   or_both    what follows from both
use Rattle.std.proofs.Common.{⊎_elim, inl, inr}
use Rattle.status.specs.declared.status.Status.{Status}
use Rattle.status.specs.declared.status.Status.TheVariants.{Done, Usage, Config as BadConfig, Store as BadStore, Recording, Torn, ReadFault, WriteFault, DiskFault, OutOfMemory, TooLong, Differs}
use Rattle.count_command.specs.declared.course.Course.{Course}
use Rattle.count_command.specs.declared.course.Course.TheVariants.{Count, Watch}
use Rattle.count_command.specs.Holding.{QuietOr}

pub or_both : {P Q A B : Type 0} → (P → Q) → (A → B) → (s : Status) (course : Course) → QuietOr s course P A → QuietOr s course Q B
or_both f g OutOfMemory Watch h = ⊎_elim (λ still. inl (f still)) (λ more. inr (g more)) h
or_both f g OutOfMemory Count h = tt
or_both f g Done course h = tt
or_both f g Usage course h = tt
or_both f g (BadConfig x) course h = tt
or_both f g (BadStore x) course h = tt
or_both f g (Recording g2 x) course h = tt
or_both f g (Torn g2 b) course h = tt
or_both f g ReadFault course h = tt
or_both f g WriteFault course h = tt
or_both f g DiskFault course h = tt
or_both f g (TooLong g2) course h = tt
or_both f g (Differs g2 x y z) course h = tt

pub or_still : {P : Type 0} → P → (A : Type 0) (s : Status) (course : Course) → QuietOr s course P A
or_still still A OutOfMemory Watch = inl still
or_still still A OutOfMemory Count = tt
or_still still A Done course = tt
or_still still A Usage course = tt
or_still still A (BadConfig x) course = tt
or_still still A (BadStore x) course = tt
or_still still A (Recording g x) course = tt
or_still still A (Torn g b) course = tt
or_still still A ReadFault course = tt
or_still still A WriteFault course = tt
or_still still A DiskFault course = tt
or_still still A (TooLong g) course = tt
or_still still A (Differs g x y z) course = tt
