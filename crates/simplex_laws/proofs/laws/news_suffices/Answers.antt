use Rattle.simplex_rules.proofs.Prelude.{[]}
use Rattle.simplex_rules.specs.NewsLaws.{kept_next}
use Rattle.simplex_laws.proofs.BoundLemmas.{few_are_kept}
use Rattle.simplex_laws.proofs.NewsLemmas.{is_compaction, logs_are_compact, news_changes_state}
use Rattle.simplex_laws.proofs.laws.news_suffices.Goals as goal

pub returns-clause-changes : goal.returns-clause-changes
returns-clause-changes g c rules l = news_changes_state rules l

pub returns-clause-compaction : goal.returns-clause-compaction
returns-clause-compaction g c rules messages l = is_compaction rules l messages

pub returns-clause-next : goal.returns-clause-next
returns-clause-next g c rules messages message = kept_next rules [] messages message

pub returns-clause-few : goal.returns-clause-few
returns-clause-few g c rules messages l committees whole = few_are_kept rules l committees messages whole

pub returns-clause-logs : goal.returns-clause-logs
returns-clause-logs g c rules logs l = logs_are_compact rules l logs
