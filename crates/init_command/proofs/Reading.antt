-- The heads that were read so far, and the first that is refused.
use Rattle.std.proofs.Common.{◌≡◌, ◌<◌, ◌≤◌, ◌⊎◌, inl, inr, ℕ, ◌+◌, List, [], ◌∷◌, ◌++◌, length, get_or, refl, sym, ◌∙◌, ap, subst, arith}
use Rattle.std.specs.Prelude.{Option, Ok, Err, slice_index_or}
use Rattle.std.proofs.Math.ListN.{get_or-append}
use Rattle.std.proofs.Math.Seq.{get_or-append_seam}
use Rattle.std.proofs.lemmas.List.{get_or_default}
use Rattle.std.proofs.lemmas.Bool.{cases_lt}
use Rattle.outside.specs.Site.{Files}
use Rattle.recording.specs.declared.head.Head.{Head}
use Rattle.recording.specs.declared.head.HeadFault.{HeadFault}
use Rattle.recording.specs.declared.head.HeadFault.TheVariants as head
use Rattle.site_config.specs.declared.config.Config.{Config}
use Rattle.site_config.specs.declared.config.Gauge.{Gauge}
use Rattle.site_config.specs.Valid.{no_gauge, file_of}
use Rattle.status.specs.declared.status.RecordingFault.{RecordingFault}
use Rattle.status.specs.declared.status.Status.{Status}
use Rattle.status.specs.declared.status.Status.TheVariants.{Done, Usage, Config as BadConfig, Store, Recording, Torn, ReadFault, WriteFault, DiskFault, OutOfMemory, TooLong, Differs}
use Rattle.init_command.specs.Heads.{HasHead, AreHeadsBelow, AreSound, AreHeads, HeadAnswer, HeadsAnswer, HasFault, IsHeadStatus, IsHeadsStatus, head_status}

-- of each answer of reading the heads
pub by_heads : (P : Status → Type 0) → ((g : ℕ) (f : RecordingFault) → P (Recording g f)) → P ReadFault → P OutOfMemory → (s : Status)
    → IsHeadsStatus s → P s
by_heads P f r m (Recording g fault) is = f g fault
by_heads P f r m ReadFault is = r
by_heads P f r m OutOfMemory is = m
by_heads P f r m Done is = absurd is
by_heads P f r m Usage is = absurd is
by_heads P f r m (BadConfig fault) is = absurd is
by_heads P f r m (Store fault) is = absurd is
by_heads P f r m (Torn g bytes) is = absurd is
by_heads P f r m WriteFault is = absurd is
by_heads P f r m DiskFault is = absurd is
by_heads P f r m (TooLong g) is = absurd is
by_heads P f r m (Differs g what held found) is = absurd is

pub heads_status : (g : ℕ) (s : Status) → IsHeadStatus g s → IsHeadsStatus s
heads_status g (Recording h f) is = tt
heads_status g ReadFault is = tt
heads_status g Done is = absurd is
heads_status g Usage is = absurd is
heads_status g (BadConfig f) is = absurd is
heads_status g (Store f) is = absurd is
heads_status g (Torn h bytes) is = absurd is
heads_status g WriteFault is = absurd is
heads_status g DiskFault is = absurd is
heads_status g OutOfMemory is = absurd is
heads_status g (TooLong h) is = absurd is
heads_status g (Differs h what held found) is = absurd is

no_head : Head
no_head = record { id = []; period_us = 0 }

module _ (c : Config) (files : Files) where
  -- one more
  pub heads_more : (k : ℕ) (heads : List Head) (h : Head) → length heads ≡ k → AreHeadsBelow c files k heads → HasHead c files k (Ok h)
      → AreHeadsBelow c files (k + 1) (heads ++ h ∷ [])
  heads_more k heads h many each has g any lt = go (cases_lt g k)
    where
      go : (g < k) ⊎ (k ≤ g) → HasHead c files g (Ok (get_or (heads ++ h ∷ []) g any))
      go (inl below) = subst (λ (x : Head). HasHead c files g (Ok x)) (sym
          (get_or-append heads (h ∷ []) any g (omega (arith, many, below)))) (each g any below)
      go (inr not_below) =
          let here : k ≡ g = omega (arith, lt, not_below) in
          let last : get_or (heads ++ h ∷ []) g any ≡ h = subst (λ (n : ℕ). get_or (heads ++ h ∷ []) n any ≡ h) (many ∙ here)
          (get_or-append_seam heads h [] any) in
          subst (λ (x : Head). HasHead c files g (Ok x)) (sym last) (subst (λ (n : ℕ). HasHead c files n (Ok h)) here has)

  pub heads_all : (k : ℕ) (heads : List Head) → length heads ≡ k → k ≡ length c.gauges → AreHeadsBelow c files k heads →
      AreHeads c files heads
  heads_all k heads many all each = record {
    each = subst (λ (n : ℕ). AreHeadsBelow c files n heads) all each;
    all = many ∙ all;
  }

  -- what holds of the file of a gauge's name
  pub file_for : (P : Option (List ℕ) → Type 0) (now : Files) (g : ℕ) (gauges : List Gauge) (here : Gauge) (name : List ℕ) →
      gauges ≡ c.gauges
      → g < length gauges → name ≡ (slice_index_or gauges g here).file → now ≡ files → P (now name) → P (files (file_of c g))
  file_for P now g gauges here name same lt file at p =
      let named : name ≡ file_of c g = file ∙ ap (λ (x : Gauge). x.file) (get_or_default gauges g here no_gauge lt)
      ∙ ap (λ (l : List Gauge). (slice_index_or l g no_gauge).file) same in
      subst (λ (n : List ℕ). P (files n)) named (subst (λ (f : Files). P (f name)) at p)

  pub heads_sound : (k : ℕ) (heads : List Head) → AreHeadsBelow c files k heads → AreSound c files k
  heads_sound k heads each g lt = (get_or heads g no_head, each g no_head lt)

  -- the first that is refused
  pub heads_refused : (k : ℕ) (heads : List Head) (s : Status) → IsHeadStatus k s → k < length c.gauges → AreHeadsBelow c files k heads
      → HeadAnswer (files (file_of c k)) k (Err s) → HeadsAnswer c files (Err s)
  heads_refused k heads s kind lt each = by_heads (λ x. HeadAnswer (files (file_of c k)) k (Err x) → HeadsAnswer c files (Err x))
      (λ g fault has. (
        subst (λ (n : ℕ). n < length c.gauges) (sym has.0) lt,
        subst (λ (n : ℕ). AreSound c files n) (sym has.0) (heads_sound k heads each),
        subst (λ (n : ℕ). HasFault c files n fault) (sym has.0) has.1,
      )) (λ has. tt) (λ has. tt) s (heads_status k s kind)

pub head_kind : (g : ℕ) (f : HeadFault) → IsHeadStatus g (head_status g f)
head_kind g head.Short = refl
head_kind g head.Magic = refl
head_kind g (head.Version v) = refl
head_kind g head.NotZero = refl
head_kind g head.ReadFault = tt
