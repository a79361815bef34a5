-- `objects::intact` meets its contract. Assumes nothing.
use Rattle.std.proofs.Common.{ap, not}
use native.Mathlib.Omega.{arith}
use Rattle.stage.specs.Seen.{seen_by}
use Rattle.heads.specs.HeadWords.{head_of}
use Rattle.objects.proofs.Naming.{body-inside}
use Rattle.objects.proofs.Behind.{behind-asks, no-stray-bytes, stray-bytes}
use Rattle.objects.proofs.Feeding.{check-fed}
use Rattle.objects.proofs.intact.Goals as goal

pub zeros_behind-requires : goal.zeros_behind-requires
zeros_behind-requires c =
    let q = behind-asks (head_of c.args.h.first c.args.h.second) c.args.at c.requires.2 c.body-m.ensures.0 c.requires.1 in
    (c.requires.0, q.0, q.1, q.2)

pub returns-then-not-zeros_behind : goal.returns-then-not-zeros_behind
returns-then-not-zeros_behind c =
    let h = head_of c.args.h.first c.args.h.second in
    stray-bytes (seen_by c.args.view.now) c.args.at h c.requires.2 c.body-m.ensures.0 c.zeros_behind.ensures (ap not c.if-not-zeros_behind.true)

pub feed_part-s-requires : goal.feed_part-s-requires
feed_part-s-requires c =
    let h = head_of c.args.h.first c.args.h.second in
    (omega arith, body-inside h c.args.at c.requires.2 c.body-m.ensures.0 c.requires.1)

pub returns : goal.returns
returns c =
    let h = c.args.h in
    no-stray-bytes (seen_by c.args.view.now) c.args.at (head_of h.first h.second) c.requires.2 c.body-m.ensures.0 c.zeros_behind.ensures (ap not c.if-not-zeros_behind.false)
    c.check.ensures (check-fed h.first h.second c.sums.ensures c.feed_part-s.ensures c.value.ensures)
