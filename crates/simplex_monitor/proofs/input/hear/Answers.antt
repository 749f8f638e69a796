use Rattle.std.proofs.Common.{[], ◌∷◌, append-nil, refl, sym, subst}
use Rattle.std.specs.Prelude.{IfErr}
use Rattle.simplex_monitor.proofs.HearingLemmas.{begun_look, begun_nothing, hears_hooked, hears_piece, if_err}
use Rattle.simplex_monitor.proofs.input.hear.Goals as goal

-- an allocation failed while the piece was fed
pub returns-in_err-next-clause-begun : goal.returns-in_err-next-clause-begun
returns-in_err-next-clause-begun g c =
    if_err c.from_residual.result _ ([], c.args.piece.now, refl, begun_nothing _ _ c.args.monitor _)

-- the lines were not written whole
pub returns-in_err-tell-clause-begun : goal.returns-in_err-tell-clause-begun
returns-in_err-tell-clause-begun g c =
    if_err c.from_residual-in_err-tell.result _ (
      c.args.piece.now,
      [],
      sym (append-nil c.args.piece.now),
      begun_look _ _ c.args.monitor c.news-news.new.self c.args.piece.now c.news-news.result _ _
          (hears_piece _ c.args.monitor c.in_ok-next.next c.news-news.new.self c.args.piece.now c.news-news.result
          c.in_ok-next.ensures.fed c.news-news.ensures.fed c.in_ok-next.ensures.listens c.news-news.ensures.listens
          c.in_ok-next.ensures.holds c.news-news.ensures.holds)
          c.in_err-tell.ensures.begun,
    )

pub returns-clause-told : goal.returns-clause-told
returns-clause-told g c = c.looked.ensures.told c.news-news.ensures.told

pub returns-clause-failed : goal.returns-clause-failed
returns-clause-failed g c = (
  λ failed. absurd (subst (λ r. IfErr r (λ _. ⊥)) (c.in_ok-tell.ensures.failed.0 failed) tt),
  λ e. absurd (subst (λ r. IfErr r (λ _. ⊥)) e tt),
)

pub returns-clause-hears : goal.returns-clause-hears
returns-clause-hears g c = (
  c.news-news.result,
  hears_hooked _ c.args.monitor c.news-news.new.self c.looked.new.monitor c.args.piece.now (c.news-news.result ∷ [])
      (hears_piece _ c.args.monitor c.in_ok-next.next c.news-news.new.self c.args.piece.now c.news-news.result
      c.in_ok-next.ensures.fed c.news-news.ensures.fed c.in_ok-next.ensures.listens c.news-news.ensures.listens
      c.in_ok-next.ensures.holds c.news-news.ensures.holds)
      c.looked.ensures.fed c.looked.ensures.listens c.looked.ensures.holds,
  c.in_ok-tell.ensures.written,
)
