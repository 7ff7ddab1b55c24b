use Rattle.script_text.specs.declared.actor.Actor.TheVariants.{Ring}
use Rattle.script_text.proofs.Common.{all_stated, is_same_actor, length, pending_at, refl, texts, ◌∙◌}
use Rattle.script_text.proofs.Entering.{batch_more, entries_more}
use Rattle.script_text.proofs.parts.Parts.push_line.Goals as goal

pub returns : goal.returns
returns c =
    let kind = c.args.kind in
    let words = texts c.args.line.now.words.items in
    let entries = c.args.self.now.entries in
    record {
      actor = refl;
      time = refl;
      pipes = refl;
      rings = refl;
      entries = entries_more (all_stated c.args.labels.now.lines.items) kind words c.args.line.now.given entries.items c.push.new.self.items c.in_ok-named.named c.requires.fits.0 c.in_ok-push.ensures.items
          (cc (c.in_ok-named.ensures, entries.ok.0));
      acts = λ ring. rw c.in_ok-push_pending.ensures.acts refl;
      clock = λ batch. rw c.in_ok-push_pending.ensures.clock refl;
      pending = λ ring. (
          let more = batch_more kind words (is_same_actor (Ring ring) c.args.self.now.actor) (length entries.items) (pending_at c.args.self.now.acts.pending.items ring) c.requires.fits.0 in
          cc (c.in_ok-push_pending.ensures.pending ring, entries.ok.0, more));
      even = record {
        acts = rw c.in_ok-push_pending.ensures.acts c.requires.even.acts;
        pending = c.in_ok-push_pending.ensures.batches ∙ c.requires.even.pending;
        few = c.requires.even.few;
        known = c.requires.even.known;
      };
    }
