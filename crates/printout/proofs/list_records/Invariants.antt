-- The reader is one of this log, and the time noted is that of the record before it. Measure: the numbers that the reader has before it.
use Rattle.std.proofs.Common.{◌≡◌, ◌-◌}
use Rattle.printout.specs.Listings.{time_up_to}
use Rattle.printout.proofs.list_records.Given as goal

abbrev pub invariant-loop-record : goal.invariant-loop-record
invariant-loop-record g l = record {
  same_log : l.reader.log.now ≡ l.l.log.now;
  noted : l.time ≡ time_up_to l.l.log.now l.reader.next.0;
}

abbrev pub decreases-loop-record : goal.decreases-loop-record
decreases-loop-record g l = 4294967295 - l.reader.next.0
