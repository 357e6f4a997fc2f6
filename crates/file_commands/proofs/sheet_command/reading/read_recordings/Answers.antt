use Rattle.std.proofs.Common.{◌≡◌, ◌<◌, ℕ, ℤ, ◌+◌, List, [], ◌∷◌, ◌++◌, length, drop, map, get_or, ◌∙◌, ap, subst, length-append, arith}
use Rattle.std.specs.Prelude.{Vec}
use Rattle.std.proofs.lemmas.List.{map-append, length-map, take_all}
use Rattle.std.specs.declared.alloc.Global.{Global}
use Rattle.outside.specs.Site.{Asks, Files}
use Rattle.site_config.specs.declared.config.Gauge.{Gauge}
use Rattle.recording.specs.Samples.{samples as all_samples}
use Rattle.site_config.specs.recorded.Asked.{file_names}
use Rattle.site_config.specs.recorded.Recorded.{body_in}
use Rattle.site_config.proofs.on_recorded.Asking.{asks_file, asks_more, none_is_first}
use Rattle.file_commands.specs.file_tasks.FileState.{Sound, file_state}
use Rattle.file_commands.specs.file_tasks.Answer.{MayAnswer as MayAnswerFor}
use Rattle.file_commands.specs.sheet_command.Sheet.{recordings_of, answer_over}
use Rattle.file_commands.proofs.on_sheet_command.Asking.{reading_asks}
use Rattle.file_commands.proofs.on_sheet_command.Recordings.{read_more, sound_more, refused, sound_all}
use Rattle.file_commands.proofs.sheet_command.reading.read_recordings.Goals as goal

pub returns-in-Err-clause-refused : goal.returns-in-Err-clause-refused
returns-in-Err-clause-refused g c = λ tells.
    let was = c.loop-number.invariant in
    let gauges = c.args.config.now.gauges in
    let files = g.T.Site.files c.args.site.now in
    let here = c.index-gauges-number.result in
    let lt : c.loop-number.number < length gauges = omega (arith, c.loop-number-test.true, ap length c.as_slice-gauges.ensures) in
    let is : here ≡ get_or gauges c.loop-number.number here = c.index-gauges-number.is
    ∙ ap (λ (l : List Gauge). get_or l c.loop-number.number here) c.as_slice-gauges.ensures in
    refused gauges files c.loop-number.number here lt is (answer_over c.args.config.now files) c.in-Err.status (was.sound tells)
    c.in-Err.ensures.kind
    (subst (λ (f : Files). MayAnswerFor c.loop-number.number c.in-Err.status (file_state (f here.file))) (was.files tells)
    (c.in-Err.ensures.refused tells))

pub loop-number-preserved : goal.loop-number-preserved
loop-number-preserved g c =
    let was = c.loop-number.invariant in
    let now = c.in-Ok-read_recording.ensures in
    let gauges = c.args.config.now.gauges in
    let files = g.T.Site.files c.args.site.now in
    let here = c.index-gauges-number.result in
    let samples = c.in-Ok-read_recording.samples in
    let asked = g.T.Site.names_asked in
    let old = c.loop-number.recordings.items in
    let lt : c.loop-number.number < length gauges = omega (arith, c.loop-number-test.true, ap length c.as_slice-gauges.ensures) in
    let is : here ≡ get_or gauges c.loop-number.number here = c.index-gauges-number.is
    ∙ ap (λ (l : List Gauge). get_or l c.loop-number.number here) c.as_slice-gauges.ensures in
    let seen : map (λ (w : Vec ℤ Global). w.items) c.push_reserved.new.self.items ≡ map (λ (w : Vec ℤ Global). w.items) old ++
    samples.items ∷ [] =
    ap (map (λ (w : Vec ℤ Global). w.items)) c.push_reserved.ensures.items ∙ map-append (λ (w : Vec ℤ Global). w.items) old
    (samples ∷ []) in
    record {
      read = λ tells. ap (λ (l : List (List ℤ)). l ++ recordings_of (drop (c.loop-number.number + 1) gauges) files) seen
          ∙ read_more gauges files c.loop-number.number here lt is (map (λ (w : Vec ℤ Global). w.items) old) samples.items (was.read tells)
          (now.samples tells ∙ ap (λ (f : Files). all_samples (body_in (f here.file))) (was.files tells));
      sound = λ tells. sound_more gauges files c.loop-number.number here lt is (answer_over c.args.config.now files) (was.sound tells)
          (subst (λ (f : Files). file_state (f here.file) ≡ Sound) (was.files tells) (now.sound tells));
      many = omega (arith, was.many, ap length c.push_reserved.ensures.items, length-append old (samples ∷ []));
      room = omega (arith, was.room, c.push_reserved.ensures.capacity);
      steady = now.steady (λ e. absurd cc) ∙ was.steady;
      asked = asks_more c.args.config.now c.loop-number.number (asked c.args.site.now) (asked c.loop-number.site) was.asked
          (asked c.read_recording.new.site) lt (asks_file c.args.config.now c.loop-number.number c.as_slice-gauges.result.now here
          here.file lt c.as_slice-gauges.ensures (ap (λ (x : Gauge). x.file) c.index-gauges-number.is) (asked c.loop-number.site)
          (asked c.read_recording.new.site) c.read_recording.ensures.asked);
      back = now.back;
      files = λ tells. now.files tells ∙ was.files tells;
    }

pub returns-clause-sound : goal.returns-clause-sound
returns-clause-sound g c = λ tells.
    sound_all c.args.config.now.gauges (g.T.Site.files c.args.site.now) c.loop-number.number _
    (omega (arith, c.loop-number-test.false, c.loop-number.auto.number-end, ap length c.as_slice-gauges.ensures))
    (c.loop-number.invariant.sound tells)

pub returns-in-Err-clause-asked : goal.returns-in-Err-clause-asked
returns-in-Err-clause-asked g c =
    let asked = g.T.Site.names_asked in
    let config = c.args.config.now in
    let number = c.loop-number.number in
    let here = c.index-gauges-number.result in
    let lt : number < length config.gauges = omega (arith, c.loop-number-test.true, ap length c.as_slice-gauges.ensures) in
    reading_asks (asked c.args.site.now) (asked c.read_recording.new.site) (file_names config) number (
      omega (arith, lt, length-map config.gauges (λ (gauge : Gauge). gauge.file)),
      asks_more config number (asked c.args.site.now) (asked c.loop-number.site) c.loop-number.invariant.asked
          (asked c.read_recording.new.site) lt (asks_file config number c.as_slice-gauges.result.now here here.file lt
          c.as_slice-gauges.ensures (ap (λ (x : Gauge). x.file) c.index-gauges-number.is) (asked c.loop-number.site)
          (asked c.read_recording.new.site) c.read_recording.ensures.asked),
    ) c.in-Err.status c.in-Err.ensures.kind c.in-Err.ensures.own

pub returns-clause-asked : goal.returns-clause-asked
returns-clause-asked g c =
    let names = file_names c.args.config.now in
    subst (λ (l : List (List ℕ)). Asks (g.T.Site.names_asked c.args.site.now) (g.T.Site.names_asked c.loop-number.site) l)
    (take_all c.loop-number.number names (omega (
      arith,
      c.loop-number-test.false,
      ap length c.as_slice-gauges.ensures,
      length-map c.args.config.now.gauges (λ (gauge : Gauge). gauge.file),
    ))) c.loop-number.invariant.asked

pub returns-in_default-clause-asked : goal.returns-in_default-clause-asked
returns-in_default-clause-asked g c = none_is_first (g.T.Site.names_asked c.args.site.now) (g.T.Site.names_asked c.args.site.now)
    (file_names c.args.config.now) (λ names has. has)
