use Rattle.std.proofs.Common.{◌≡◌, ◌+◌, ◌-◌, length, sym, refl, ◌∙◌, arith}
use Rattle.std.proofs.lemmas.Slice.{put_mid-paste}
use Rattle.text.proofs.Writings.{as_paste}
use Rattle.text.proofs.writer.write_bytes.Goals as goal

pub returns : goal.returns
returns c =
    let long : length c.args.bytes.now ≡ c.args.at + length c.args.bytes.now - c.args.at = omega arith in
    record {
      text = put_mid-paste c.args.at _ c.args.buffer.now _ c.args.bytes.now (length c.args.bytes.now) c.copy_from_slice.ensures.after long refl ∙ sym (as_paste c.args.buffer.now c.args.at c.args.bytes.now);
      place = refl;
    }
