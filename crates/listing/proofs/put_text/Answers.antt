use Rattle.folds.specs.Kit.{refl, ◌∙◌, arith}
use Rattle.std.proofs.lemmas.Slice.{put_mid-paste}
use Rattle.answer.specs.Pasted.{pasted-is}
use Rattle.listing.proofs.put_text.Goals as goal

pub returns : goal.returns
returns c =
    record {
      slice = put_mid-paste c.args.at _ c.args.out.now _ c.args.text.now _ c.copy_from_slice.ensures.after (omega arith) refl
          ∙ pasted-is c.args.at c.args.text.now c.args.out.now;
      next = refl;
    }
