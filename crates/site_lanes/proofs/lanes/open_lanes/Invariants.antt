use Rattle.std.specs.List.{All}
use Rattle.std.proofs.Common.{◌≡◌, ◌<◌, vec_len, vec_capacity}
use Rattle.std.specs.Prelude.{slice_index, take}
use Rattle.outside.specs.Site.{Asks}
use Rattle.segment_store.specs.Held.{ends_of}
use Rattle.site_config.specs.recorded.Recorded.{recordings}
use Rattle.site_config.specs.recorded.Asked.{file_names}
use Rattle.site_lanes.specs.Lanes.{AreLanes, AreHeldTo, HasSource, HasNoFaults, IsNew}
use Rattle.site_lanes.specs.Answers.{AllOpened}
use Rattle.site_lanes.proofs.lanes.open_lanes.Given as goal

-- the gauges before this one have their lanes
abbrev pub invariant-loop-gauge : goal.invariant-loop-gauge
invariant-loop-gauge g l =
    let t = g.T.Site in
    record {
      out : t.out l.site ≡ vec_len l.lanes;
      many : vec_len l.lanes ≡ l.gauge;
      room : vec_capacity l.lanes ≡ vec_capacity l.fn.lanes;
      sources : All HasSource l.lanes.items;
      new : All IsNew l.lanes.items;
      held : AreHeldTo (ends_of l.store.held) l.lanes.items;
      source_tells : t.tells → 0 < l.gauge → g.T.Src.Source.tells;
      lanes : t.tells → AreLanes g.T.Src.Source.tells g.T.Src.Source.left (recordings l.config (t.files l.fn.site)) l.lanes.items;
      sound : t.tells → AllOpened l.config l.store.head.heads (slice_index (ends_of l.store.held)) (t.files l.fn.site) l.gauge;
      asked : Asks (t.names_asked l.fn.site) (t.names_asked l.site) (take l.gauge (file_names l.config));
      files : t.tells → t.files l.site ≡ t.files l.fn.site;
      faults : t.faults l.site ≡ t.faults l.fn.site;
      fresh : All (HasNoFaults g.T.Src.Source.faults) l.lanes.items;
    }
