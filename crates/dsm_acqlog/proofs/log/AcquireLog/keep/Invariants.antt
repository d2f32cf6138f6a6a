use Rattle.std.proofs.Common.{◌≡◌, drop}
use Rattle.dsm_base.specs.Family.{update}
use Rattle.dsm_acqlog.specs.Logs.{records_of, with_records}
use Rattle.dsm_acqlog.proofs.log.AcquireLog.keep.Given as goal

-- what is kept with those that are still to come is what was kept with all
abbrev pub invariant-loop-taken : goal.invariant-loop-taken
invariant-loop-taken l =
    record {
      own : with_records (records_of l.self l.from.0) (drop l.taken-index l.records) ≡ with_records (records_of l.fn.self l.from.0) l.records;
      others : records_of l.self ≡ update (records_of l.fn.self) l.from.0 (records_of l.self l.from.0);
      grants : l.self.grants ≡ l.fn.self.grants;
      openings : l.self.openings ≡ l.fn.self.openings;
    }
