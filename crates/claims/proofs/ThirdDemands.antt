-- The third demand: after every list of calls, refused ones included, from every accepted start, of net changes and outsets, and of
-- which count files are held; of any two such lists that leave one log, of tables; and of a store before and after a deletion by
-- mark, of tables. Assumes nothing.
use Prim.Native.Nat.{ℕ}
use mathlib.Core.Path.{refl}
use Rattle.model.specs.Answers.{first_no}
use Rattle.model.specs.Memory.{State}
use Rattle.model.specs.Files.{drop_marked_questions, drop_marked_of}
use Rattle.model.specs.Facts.{InOrder}
use Rattle.model.specs.Demands.{DemandThree, OneLog, SameTables, NoTableDiffers, ThirdDemand, left}
use Rattle.model.proofs.Leaving.{either_left}
use Rattle.claims.proofs.Kept.{drop-marked_audited}
use Rattle.claims.proofs.Lists.{stays_in_order}
use Rattle.claims.proofs.NetChanges.{net_change_is}
use Rattle.claims.proofs.Outsets.{table_from_nearest, view_is_nearest}
use Rattle.claims.proofs.SameLogs.{one_table}
use Rattle.claims.proofs.FilesHeld.{held_since_kept}

pub demand_three : (st : State) → InOrder st → DemandThree st
demand_three st o =
    record {
      net_changes = λ a b out work l k. net_change_is st o a b out work l k;
      outsets = λ t out l. table_from_nearest st t out o.audited l;
      views = λ t. view_is_nearest st t o.audited;
    }

pub same_tables : SameTables
same_tables s s' cs cs' sf sf' cf cf' e e' one =
    one_table (left s cs) (left s' cs') (stays_in_order s cs sf cf e) (stays_in_order s' cs' sf' cf' e') one

-- a deletion by mark leaves the log as it is
marked_one_log : (st : State) (k : ℕ) → OneLog st (drop_marked_of st k).state
unfolding drop_marked_of
marked_one_log st k =
    either_left (λ x. OneLog st x) _ (first_no (drop_marked_questions st k)) st _ (record { same_count = refl; same_bytes = refl })
    (λ q. record { same_count = refl; same_bytes = refl })

pub no_table_differs : NoTableDiffers
no_table_differs st k o = one_table st (drop_marked_of st k).state o (drop-marked_audited st k o) (marked_one_log st k)

pub third_demand : ThirdDemand
third_demand =
    record {
      after_every_list = λ s cs sf cf e. demand_three (left s cs) (stays_in_order s cs sf cf e);
      same_tables = same_tables;
      no_table_differs = no_table_differs;
      held_since_kept = held_since_kept;
    }
