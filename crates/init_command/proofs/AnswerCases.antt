-- What holds of each answer of a part of `init`, and of its line and its causes.
--   one_config      a configuration was read once
--   by_making       of making the store
--   still_unmade    what holds where nothing was written
--   not_read        making the store reads no source
--   no_name         no gauge is named in what making the store is answered with
--   heads_answer    the answer where a head is refused
--   made_answer     the answer where all heads were read
--   init_complete   the answer where all is sound and nothing outside fails
use Rattle.std.proofs.Common.{◌≡◌, ◌≢◌, ◌⊎◌, inl, inr, ℕ, List, [], ◌∙◌, length, refl, ap, subst, arith}
use Rattle.std.specs.Prelude.{Option, Some, Result, Ok, Err}
use Rattle.outside.specs.Site.{Files}
use Rattle.outside.specs.station.Station.{Image}
use Rattle.recording.specs.Head.{recording_head}
use Rattle.recording.specs.declared.head.Head.{Head}
use Rattle.recording.specs.declared.head.HeadFault.{HeadFault}
use Rattle.site_config.specs.declared.config.Config.{Config}
use Rattle.site_config.specs.declared.fault.ConfigFault.{ConfigFault}
use Rattle.site_config.specs.Valid.{file_of}
use Rattle.status.specs.declared.status.RecordingFault.{RecordingFault}
use Rattle.status.specs.declared.status.StoreFault.TheVariants as store
use Rattle.status.specs.declared.status.Status.{Status}
use Rattle.status.specs.declared.status.Status.TheVariants.{Done, Usage, Config as BadConfig, Store, Recording, Torn, ReadFault, WriteFault, DiskFault, OutOfMemory, TooLong, Differs}
use Rattle.status.specs.fault_lines.FaultLine.{name_by}
use Rattle.init_command.specs.Heads.{HasHeadIn, HasFaultIn, AreHeads, AreSound, HeadsAnswer, IsHeadsStatus}
use Rattle.init_command.specs.Init.{InitAnswers, IsUnmade}
use Rattle.init_command.specs.Making.{MakesBy, IsMaking, WhereUnmade}
use Rattle.init_command.proofs.Reading.{by_heads, heads_sound}

pub one_config : {read : Result Config ConfigFault} {c d : Config} → read ≡ Ok c → read ≡ Ok d → c ≡ d
one_config is has = cc

pub by_making : (P : Status → Type 0) → P Done → ((n : ℕ) → P (Store (store.NotEmpty n))) → P DiskFault → P OutOfMemory → (s : Status)
    → IsMaking s → P s
by_making P d e k m Done is = d
by_making P d e k m (Store (store.NotEmpty n)) is = e n
by_making P d e k m DiskFault is = k
by_making P d e k m OutOfMemory is = m
by_making P d e k m (Store store.NotAStore) is = absurd is
by_making P d e k m (Store (store.Version v)) is = absurd is
by_making P d e k m (Store (store.Differs f kept found)) is = absurd is
by_making P d e k m (Store (store.Damaged i damage)) is = absurd is
by_making P d e k m Usage is = absurd is
by_making P d e k m (BadConfig fault) is = absurd is
by_making P d e k m (Recording g fault) is = absurd is
by_making P d e k m (Torn g bytes) is = absurd is
by_making P d e k m ReadFault is = absurd is
by_making P d e k m WriteFault is = absurd is
by_making P d e k m (TooLong g) is = absurd is
by_making P d e k m (Differs g what held found) is = absurd is

pub still_unmade : {P : Type 0} (s : Status) → IsMaking s → IsUnmade s → WhereUnmade s P → P
still_unmade {P = P} = by_making (λ s. IsUnmade s → WhereUnmade s P → P) (λ no. absurd no) (λ n un p. p) (λ no. absurd no) (λ un p. p)

pub not_read : (s : Status) → IsMaking s → s ≢ ReadFault
not_read = by_making (λ s. s ≢ ReadFault) (λ is. cc) (λ n is. cc) (λ is. cc) (λ is. cc)

module _ (read : Result Config ConfigFault) (c : Config) (is : read ≡ Ok c) where
  pub no_name : (s : Status) → IsMaking s → name_by read s ≡ []
  no_name s making = ap (λ (r : Result Config ConfigFault). name_by r s) is
      ∙ by_making (λ x. name_by (Ok c) x ≡ []) refl (λ n. refl) refl refl s making

  module _ (files : Files) (image : Image) where
    pub heads_answer : (s : Status) → IsHeadsStatus s → HeadsAnswer c files (Err s) → InitAnswers read files image s
    heads_answer = by_heads (λ s. HeadsAnswer c files (Err s) → InitAnswers read files image s) (λ g f has. (c, is, has)) (λ has. tt)
        (λ has. tt)

    pub made_answer : (heads : List Head) → AreHeads c files heads → (s : Status) → IsMaking s → MakesBy (length image) s →
        InitAnswers read files image s
    made_answer heads are =
        let sound = heads_sound c files (length c.gauges) heads are.each in
        by_making (λ s. MakesBy (length image) s → InitAnswers read files image s) (λ by. (c, is, (sound, by)))
        (λ n by. (c, is, (sound, by.0, by.1))) (λ by. (c, is, tt)) (λ by. tt)

-- a head that is sound has no fault
heads_clash : (content : Option (List ℕ)) (a b : List ℕ) (h : Head) (f : HeadFault) → content ≡ Some a → recording_head a ≡ Ok h →
    content ≡ Some b
    → recording_head b ≡ Err f → ⊥
heads_clash content a b h f there good there2 bad = cc

sound_head : (content : Option (List ℕ)) (g : ℕ) (fault : RecordingFault) → (h : Head) × HasHeadIn content (Ok h) →
    HasFaultIn content g fault → ⊥
sound_head content g fault (h, (a, there, good)) (f, (b, there2, bad), is) = heads_clash content a b h f there good there2 bad

module _ (read : Result Config ConfigFault) (c : Config) (files : Files) (image : Image) (is : read ≡ Ok c)
    (sound : AreSound c files (length c.gauges)) (none : length image ≡ 0) where
  pub init_complete : (s : Status) → InitAnswers read files image s → s ≢ ReadFault → s ≢ DiskFault → (s ≡ Done) ⊎ (s ≡ OutOfMemory)
  init_complete Done by no_read no_disk = inl refl
  init_complete OutOfMemory by no_read no_disk = inr refl
  init_complete (BadConfig f) by no_read no_disk = absurd cc
  init_complete (Store (store.NotEmpty n)) (d, has, by) no_read no_disk = absurd (by.2 (omega (arith, by.1, none)))
  init_complete (Recording g f) (d, has, by) no_read no_disk =
      let same = subst (λ (x : Config). AreSound x files (length x.gauges)) (one_config is has) sound in
      absurd (sound_head (files (file_of d g)) g f (same g by.0) by.2)
  init_complete ReadFault by no_read no_disk = absurd (no_read refl)
  init_complete DiskFault by no_read no_disk = absurd (no_disk refl)
  init_complete (Store store.NotAStore) (d, has, by) no_read no_disk = absurd by
  init_complete (Store (store.Version v)) (d, has, by) no_read no_disk = absurd by
  init_complete (Store (store.Differs f kept found)) (d, has, by) no_read no_disk = absurd by
  init_complete (Store (store.Damaged i damage)) (d, has, by) no_read no_disk = absurd by
  init_complete Usage (d, has, by) no_read no_disk = absurd by
  init_complete (Torn g bytes) (d, has, by) no_read no_disk = absurd by
  init_complete WriteFault (d, has, by) no_read no_disk = absurd by
  init_complete (TooLong g) (d, has, by) no_read no_disk = absurd by
  init_complete (Differs g what held found) (d, has, by) no_read no_disk = absurd by
