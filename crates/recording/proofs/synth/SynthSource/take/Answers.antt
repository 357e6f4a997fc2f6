use Rattle.std.proofs.Common.{◌≡◌, ◌++◌, take, drop, sym, ap, ◌∙◌, rules}
use Rattle.std.specs.Int.{to_le_bytes, cast_unsigned, w32}
use Rattle.recording.specs.Synth.{made_sample}
use Rattle.recording.proofs.Made.{whole_taken, part_taken, drop-given}
use Rattle.recording.proofs.synth.SynthSource.take.Goals as goal

pub returns-then-buf-ge4-clause-bytes : goal.returns-then-buf-ge4-clause-bytes
returns-then-buf-ge4-clause-bytes c = λ told.
    let s = c.self.inside in
    let made = c.make_samples-self-inside.ensures in
    whole_taken s.samples c.min-samples.result s.state c.make_samples-self-inside.result s.given _ _ _
    (search rules) (search rules) made.bytes (search rules) made.state (sym c.self.view_is)

pub returns-else-self-eq4-clause-bytes : goal.returns-else-self-eq4-clause-bytes
returns-else-self-eq4-clause-bytes c = λ told.
    let s = c.self.inside in
    let bytes = c.to_le_bytes-bytes.result in
    let own : bytes ≡ to_le_bytes w32 (cast_unsigned w32 c.made_sample.result) = search rules in
    let is = own ∙ ap (λ z. to_le_bytes w32 (cast_unsigned w32 z)) (c.made_sample.ensures ∙ ap made_sample c.next_state-next.ensures) in
    part_taken s.samples s.state s.given c.min-n.result bytes c.copy_from_slice.new.self
    (drop c.min-n.result c.args.buf.now) c.args.self.now
    (search rules) (search rules) is (search rules) (sym c.self.view_is)

pub returns-then-self-eq4-clause-bytes : goal.returns-then-self-eq4-clause-bytes
returns-then-self-eq4-clause-bytes c = λ told.
    let s = c.self.inside in
    let n = c.min-n.result in
    let bytes = c.to_le_bytes-bytes.result in
    let written = c.copy_from_slice.new.self in
    let rest = drop n c.args.buf.now in
    let own : bytes ≡ to_le_bytes w32 (cast_unsigned w32 c.made_sample.result) = search rules in
    let is = own ∙ ap (λ z. to_le_bytes w32 (cast_unsigned w32 z)) (c.made_sample.ensures ∙ ap made_sample c.next_state-next.ensures) in
    let part = part_taken s.samples s.state s.given n bytes written rest c.args.self.now
    (search rules) (search rules) is (search rules) (sym c.self.view_is) in
    part ∙ ap (λ l. take n (written ++ rest) ++ l)
    (drop-given s.samples s.state c.next_state-next.result _ (search rules) (search rules) c.next_state-next.ensures)
