-- Secrecy and integrity over the six labels of a session.
use Rattle.orders.specs.Order.{Order}
use Rattle.policies.specs.Model.{Model}
use Rattle.policies.specs.Views.{reversed_model, kept_model}
use Rattle.rules.specs.Range.{range_model}
use Rattle.rules.specs.declared.marks.SixLabels.{SixLabels}
use Rattle.rules.specs.declared.ranges.LabelRange.{LabelRange}

-- the labels of a session that starts, by those that its reads move and those that its writes move
abbrev pub started : {L : Type 0} → LabelRange L → L → L → SixLabels L
started w read written = record {
  clearance = w.clearance;
  current = w.current;
  in_low = read;
  in_high = read;
  out_low = written;
  out_high = written;
}

-- secrecy: the ceiling is out-low, and the floor in-high
abbrev pub secrecy_range : {L : Type 0} → SixLabels L → LabelRange L
secrecy_range m = record { clearance = m.clearance; current = m.current; ceiling = m.out_low; floor = m.in_high }

abbrev pub secrecy_marks : {L : Type 0} → SixLabels L → LabelRange L → SixLabels L
secrecy_marks m w = record {
  clearance = w.clearance;
  current = w.current;
  in_low = m.in_low;
  in_high = w.floor;
  out_low = w.ceiling;
  out_high = m.out_high;
}

-- in-low = in-high = LOW, out-low = out-high = HIGH
abbrev pub secrecy_begin : {L : Type 0} → LabelRange L → SixLabels L
secrecy_begin w = started w w.floor w.ceiling

-- integrity: the ceiling is in-low, and the floor out-high
abbrev pub integrity_range : {L : Type 0} → SixLabels L → LabelRange L
integrity_range m = record { clearance = m.clearance; current = m.current; ceiling = m.in_low; floor = m.out_high }

abbrev pub integrity_marks : {L : Type 0} → SixLabels L → LabelRange L → SixLabels L
integrity_marks m w = record {
  clearance = w.clearance;
  current = w.current;
  in_low = w.ceiling;
  in_high = m.in_high;
  out_low = m.out_low;
  out_high = w.floor;
}

-- in-low = in-high = HIGH, out-low = out-high = LOW
abbrev pub integrity_begin : {L : Type 0} → LabelRange L → SixLabels L
integrity_begin w = started w w.ceiling w.floor

abbrev pub secrecy_model : {L : Type 0} → Order L → Model L (SixLabels L)
secrecy_model order = kept_model (range_model order) secrecy_range secrecy_marks secrecy_begin

abbrev pub integrity_model : {L : Type 0} → Order L → Model L (SixLabels L)
integrity_model order = kept_model (reversed_model (range_model order)) integrity_range integrity_marks integrity_begin
