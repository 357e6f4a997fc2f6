use Rattle.std.proofs.Common.{◌≡◌, vec_len, vec_capacity}
use Rattle.std.specs.Prelude.{slice_index, take}
use Rattle.outside.specs.Site.{Asks}
use Rattle.segment_store.specs.Held.{ends_of}
use Rattle.site_config.specs.recorded.Recorded.{recordings}
use Rattle.site_config.specs.recorded.Asked.{file_names}
use Rattle.site_lanes.specs.Answers.{AllOpened}
use Rattle.audit_command.specs.Recounted.{AreRecounts}
use Rattle.audit_command.proofs.recounting.recount_all.Given as goal

-- the gauges before this one were counted again
abbrev pub invariant-loop-gauge : goal.invariant-loop-gauge
invariant-loop-gauge g l =
    let t = g.T.Site in
    record {
      many : vec_len l.recounts ≡ l.gauge;
      room : vec_capacity l.recounts ≡ vec_capacity l.fn.recounts;
      counted : AreRecounts l.config t.tells (recordings l.config (t.files l.fn.site)).samples (slice_index (ends_of l.store.held))
          l.recounts.items;
      sound : t.tells → AllOpened l.config l.store.head.heads (slice_index (ends_of l.store.held)) (t.files l.fn.site) l.gauge;
      asked : Asks (t.names_asked l.fn.site) (t.names_asked l.site) (take l.gauge (file_names l.config));
      back : t.out l.site ≡ 0;
      files : t.tells → t.files l.site ≡ t.files l.fn.site;
      faults : t.faults l.site ≡ t.faults l.fn.site;
    }
