-- std trims the white space at both ends.
use Rattle.std.proofs.Common.{◌∙◌, ap, refl}
use Rattle.std.proofs.lemmas.Str.Ascii.{trim_ascii_is}
use Rattle.hex.specs.Hex.{decode_sized}
use Rattle.chaos_seal.specs.declared.limits.TheConstants.{KEY_BYTES}
use Rattle.chaosd_call.specs.Key.{behind_space, key_of}
use Rattle.chaosd_call.proofs.key_text.key_of.Goals as goal

pub returns : goal.returns
unfolding key_of
returns c =
    c.from_hex.ensures
    ∙ ap (λ t. decode_sized t KEY_BYTES)
    (trim_ascii_is c.args.text.now c.trim_ascii.result.now (behind_space c.args.text.now) refl c.trim_ascii.ensures.value)
