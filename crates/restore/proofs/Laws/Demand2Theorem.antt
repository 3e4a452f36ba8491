-- DEMAND 2 holds.
use mathlib.Core.Path.{◌∙◌}
use Rattle.table.specs.View.{view}
use Rattle.homes.proofs.Laws.Kept.{test_live}
use Rattle.calls.proofs.Laws.ReadServes.{read_answers}
use Rattle.restore.specs.Run.{geometry_in}
use Rattle.restore.specs.Demand2.{Demand2}
use Rattle.restore.proofs.Laws.HomeRefused.{evict_home, create_home}
use Rattle.restore.proofs.Laws.HitReady.{live_inside}
use Rattle.restore.proofs.Laws.HistoryTheorem.{history_good}
use Rattle.restore.proofs.Laws.NeverForTable.{never_for_table}
use Rattle.restore.proofs.Laws.LastWritten.{last_written_lem}

pub demand2 : Demand2
demand2 = record {
  read_value = λ {t} {memory} {commits} history n b accepted.
      read_answers t (geometry_in t) _ _ commits (history_good history).serves n b accepted ∙ last_written_lem history b;
  read_memory = λ {t} {memory} {commits} history n b accepted. read_answers t (geometry_in t) _ _ commits (history_good history).serves n b accepted;
  never_refused = λ history. (history_good history).serves.passed;
  own_refusals = λ {t} {memory} {commits} history s. never_for_table t memory commits (history_good history) s.scratch s.call;
  point_number = λ {t} history n l.
      (history_good history).serves.number_is n (test_live (geometry_in t) (view (geometry_in t) t) n (live_inside (geometry_in t) t n l) l);
  evict_home = evict_home;
  create_home = create_home;
}
