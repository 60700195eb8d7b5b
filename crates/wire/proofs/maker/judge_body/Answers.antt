use Rattle.std.proofs.lemmas.Result.{err_from_is_err_and}
use Rattle.wire.proofs.maker.judge_body.Goals as goal

pub returns-in_err-judge_block-clause-answer : goal.returns-in_err-judge_block-clause-answer
returns-in_err-judge_block-clause-answer g c =
    let p = err_from_is_err_and c.from_residual.result c.from_residual.ensures.1 in
    λ fits h. rw (p.1, p.2) (rw (← c.in_err-judge_block.ensures.answer fits h))
