use Rattle.std.proofs.Common.{◌≡◌, length, vec_items}
use Rattle.agreement.specs.History.{History}
use Rattle.agreement.specs.Setting.{Setting}
use Rattle.world.specs.Replaying.{Played}
use Rattle.world.specs.Worlds.{Rules, Stands}
use Rattle.world.proofs.replaying.play.Given as goal

-- as many replies as calls so far; the check answers as before; and the desks stand where the model has them
abbrev pub invariant-loop-call : goal.invariant-loop-call
invariant-loop-call g l = record {
  counts : length (vec_items l.replies) ≡ l.call-index;
  check : g.K.SealCheck.accepts l.check ≡ g.K.SealCheck.accepts l.initial.check;
  does : (w : Setting) (h : History) → Rules w (g.Q.Rota.leads l.rota) (g.K.SealCheck.accepts l.initial.check) → Stands g.C.Content.kind w h l.initial.desks →
      Played g.C.Content.kind w l.call-index l.calls h (length l.initial.desks) l.desks (vec_items l.replies);
}
