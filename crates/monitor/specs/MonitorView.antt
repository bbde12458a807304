-- The view of a monitor.
use Rattle.access_log.specs.Places.{places_of}
use Rattle.monitor.specs.Rows.{row_count}
use Rattle.monitor.specs.View.{View}
use Rattle.monitor.specs.declared.monitors.Monitor.TheInside.{Inside}

abbrev pub view_of : {P L M : Type 0} → Inside P L M → View L M
view_of m = record {
  labels = m.objects.now;
  rows = row_count m.sessions;
  places = places_of m.log;
  sessions = m.sessions.sessions;
  history = m.log.history;
  spare = m.sessions.spare;
  blank = m.log.blank;
}
