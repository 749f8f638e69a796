use Rattle.simplex_rules.proofs.Prelude.{ap, arith, eqb-false, eqb-true, length, sym, ◌∙◌}
use Rattle.simplex_ballots.proofs.ApartLemmas.{kept_votes, kept_whole}
use Rattle.simplex_ballots.proofs.apart.Apart.news.Goals as goal

pub returns-then-is_empty : goal.returns-then-is_empty
returns-then-is_empty g c = record {
  is_news = sym c.if-not-is_news.false;
  kept = λ message.
      kept_whole c.args.is_news c.args.self.votes.items message c.if-not-is_news.false
      (sym (ap length c.as_slice.ensures.value)
      ∙ eqb-true (length c.as_slice.result.now) 0 (sym c.is_empty.ensures ∙ c.if-is_empty.true));
}

pub returns : goal.returns
returns g c = record {
  is_news = sym c.if-not-is_news.false;
  kept = λ message.
      kept_votes c.args.is_news c.args.self.votes.items message c.if-not-is_news.false
      (omega (
        arith,
        ap length c.as_slice.ensures.value,
        eqb-false (length c.as_slice.result.now) 0 (sym c.is_empty.ensures ∙ c.if-is_empty.false),
      ));
}
