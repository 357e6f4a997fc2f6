-- What a run of a command did, by what the site and the output show before it and after it.
--   Outside          what they show at one moment
--   outside          the same of a site and an output, by what their traits tell of them
--   Task             what a command has to do
--   Runs             that a run did it
--   usage_task       the task of words that are no command
--   no_memory_task   what is left where memory ran out while the words were read
use Rattle.std.specs.Prelude.{◌≡◌, ◌≢◌, ℕ, List, [], ◌++◌, Option, None, IsSomeAnd}
use Rattle.outside.specs.Fault.{CountRose}
use Rattle.outside.specs.Sink.{AppendsPrefix}
use Rattle.outside.specs.Site.{Files, Asked, Asks}
use Rattle.outside.specs.declared.site.Site as site
use Rattle.outside.specs.declared.sink.Sink as sink
use Rattle.status.specs.declared.status.Status.{Status}
use Rattle.status.specs.declared.status.Status.TheVariants.{Done, Usage, ReadFault, WriteFault, OutOfMemory}

pub record Outside : Type 1 where
  -- whether the site tells what its files hold, and the output what is written
  pub site_tells : Type 0
  pub output_tells : Type 0
  pub files : Files
  -- whether these may be the names that the site was asked for until now, in order
  pub names_asked : Asked
  -- how many sources are out
  pub out : ℕ
  pub site_faults : ℕ
  pub written : List ℕ
  pub output_faults : ℕ

abbrev pub outside : {S Src O : Type 0} → site.Ghosts S Src → sink.Ghosts O → S → O → Outside
outside t u s o = record {
  site_tells = t.tells;
  output_tells = u.tells;
  files = t.files s;
  names_asked = t.names_asked s;
  out = t.out s;
  site_faults = t.faults s;
  written = u.written o;
  output_faults = u.faults o;
}

pub record Task : Type 1 where
  -- the text that it prints, where there is one
  pub text : Option (List ℕ)
  -- what it may answer, whatever fails outside, and where nothing does
  pub MayAnswer : Status → Type 0
  pub IsAnswer : Status → Type 0
  -- the names of the files that it asks for, in order
  pub names : List (List ℕ)

pub record Runs (task : Task) (before after : Outside) (answer : Status) : Type 0 where
  -- What is printed: the text, a front of it, or nothing.
  pub done : before.site_tells → before.output_tells → answer ≡ Done →
      IsSomeAnd task.text (λ text. after.written ≡ before.written ++ text)
  pub front : before.site_tells → before.output_tells → answer ≡ WriteFault →
      IsSomeAnd task.text (λ text. AppendsPrefix before.written after.written text)
  pub nothing : before.output_tells → answer ≢ Done → answer ≢ WriteFault →
      after.written ≡ before.written
  -- Which answer it is. A fault comes only where a count rose.
  pub answer_may : before.site_tells → task.MayAnswer answer
  pub complete : before.site_tells → ¬ CountRose before.site_faults after.site_faults →
      ¬ CountRose before.output_faults after.output_faults → task.IsAnswer answer
  pub read : answer ≡ ReadFault → CountRose before.site_faults after.site_faults
  pub write : answer ≡ WriteFault → CountRose before.output_faults after.output_faults
  -- What it asks for, and what stays.
  pub asked : Asks before.names_asked after.names_asked task.names
  pub back : after.out ≡ 0
  pub files : before.site_tells → after.files ≡ before.files

-- of words that are no command
abbrev pub usage_task : Task
usage_task = record {
  text = None;
  MayAnswer = λ answer. answer ≡ Usage;
  IsAnswer = λ answer. answer ≡ Usage;
  names = [];
}

-- nothing is asked for and nothing printed
abbrev pub no_memory_task : Task
no_memory_task = record {
  text = None;
  MayAnswer = λ answer. answer ≡ OutOfMemory;
  IsAnswer = λ answer. answer ≡ OutOfMemory;
  names = [];
}
