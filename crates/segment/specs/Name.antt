-- The name of a segment: its gauge, and the samples that it is of.
use Rattle.segment.specs.declared.segment_rules.name.Name.{Name}
use Rattle.segment.specs.Segment.{SegmentValue}

abbrev pub name_of : SegmentValue → Name
name_of v = record { gauge = v.gauge; from = v.from; to = v.to }
