use Rattle.std.proofs.Common.{refl, subst, sym}
use Rattle.pages.specs.Gathered.{AreRecent}
use Rattle.pages.proofs.States.{recent_kept}
use Rattle.pages.proofs.recent.Recent.keep.Goals.{else-self-gt-ROOM, then-self-gt-ROOM+in_ok-shift}
use Rattle.pages.proofs.recent.Recent.keep.Goals as goal

pub returns : goal.returns
returns c input es h =
    let r = c.if-self-gt-ROOM.self in
    let old : AreRecent input es r = (elim c.if-self-gt-ROOM.branch [
      | then-self-gt-ROOM+in_ok-shift w ↦ subst (AreRecent input es) (sym w.self-is) (w.in_ok-shift.ensures input es h)
      | else-self-gt-ROOM w ↦ subst (AreRecent input es) (sym w.self-is) h
    ]) in
    recent_kept input es r _ c.args.entry old refl refl refl c.in_ok-push.ensures.items
