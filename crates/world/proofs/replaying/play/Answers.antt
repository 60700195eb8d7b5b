use Rattle.std.proofs.Common.{length, is_err, vec_items, sym, refl, ap, ◌∙◌, subst}
use Rattle.std.proofs.lemmas.List.{get_or_default}
use Rattle.world.specs.Replaying.{Played}
use Rattle.world.specs.Worlds.{Rules}
use Rattle.world.proofs.Replays.{counted-more, counted_same, played-more, played-none, played-same}
use Rattle.world.proofs.replaying.play.Goals as goal

pub loop-call-init : goal.loop-call-init
loop-call-init g c = record {
  counts = ap length c.requires;
  check = refl;
  does = λ w h rules stands. played-none g.C.Content.kind w h (length c.args.desks.now) c.args.calls.now c.args.desks.now (vec_items c.args.replies.now) c.requires stands;
}

pub returns-in_err-step-clause-does : goal.returns-in_err-step-clause-does
returns-in_err-step-clause-does g c w h rules stands =
    let inv = c.loop-call.invariant in
    let failed = ap is_err c.in_err-step.was in
    let same = counted_same c.step.result (length (vec_items c.loop-call.replies)) (length (vec_items c.step.new.replies)) c.loop-call.call-index failed inv.counts c.step.ensures.counts in
    let now = subst (λ a. Rules w (g.Q.Rota.leads c.args.rota.now) a) (sym inv.check) rules in
    subst (λ m. Played g.C.Content.kind w m c.args.calls.now h (length c.args.desks.now) c.step.new.desks (vec_items c.step.new.replies)) (sym same)
    (played-same g.C.Content.kind w h (length c.args.desks.now) c.loop-call.call-index c.args.calls.now _ c.loop-call.desks c.step.new.desks (vec_items c.loop-call.replies)
    (vec_items c.step.new.replies) c.step.result (inv.does w h rules stands) failed (c.step.ensures.does w _ now (inv.does w h rules stands).stands))

pub loop-call-preserved : goal.loop-call-preserved
loop-call-preserved g c =
    let inv = c.loop-call.invariant in
    let done = ap is_err c.in_ok-step.was in
    record {
      counts = counted-more c.step.result (length (vec_items c.loop-call.replies)) (length (vec_items c.step.new.replies)) c.loop-call.call-index done inv.counts c.step.ensures.counts;
      check = c.step.ensures.check ∙ inv.check;
      does = λ w h rules stands.
          let now = subst (λ a. Rules w (g.Q.Rota.leads c.args.rota.now) a) (sym inv.check) rules in
          played-more g.C.Content.kind w h (length c.args.desks.now) c.loop-call.call-index c.args.calls.now _ c.loop-call.desks c.step.new.desks (vec_items c.loop-call.replies)
          (vec_items c.step.new.replies) c.step.result c.loop-call-test.true (get_or_default c.args.calls.now c.loop-call.call-index _ _ c.loop-call-test.true) c.loop-call.auto.desks (inv.does w h rules stands) done
          (c.step.ensures.does w _ now (inv.does w h rules stands).stands);
    }

pub returns-clause-does : goal.returns-clause-does
returns-clause-does g c w h rules stands =
    let inv = c.loop-call.invariant in
    subst (λ m. Played g.C.Content.kind w m c.args.calls.now h (length c.args.desks.now) c.loop-call.desks (vec_items c.loop-call.replies)) (sym inv.counts) (inv.does w h rules stands)
