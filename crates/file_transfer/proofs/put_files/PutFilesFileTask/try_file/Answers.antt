use Rattle.std.proofs.Common.{◌≡◌, ℕ, List, ap, option_map, rules, subst, true}
use Rattle.file_copy.specs.declared.text.Charset.TheVariants.{LispMachine}
use Rattle.file_transfer.specs.Copied.{bytes_in, contents_of}
use Rattle.file_transfer.specs.Sessions.{EntersAnd, put_of}
use Rattle.file_transfer.proofs.Ending.{both_ok, of_tried}
use Rattle.file_transfer.proofs.put_files.PutFilesFileTask.try_file.Goals as goal

pub returns-in-Ok-Some : goal.returns-in-Ok-Some
returns-in-Ok-Some g c =
    let was = c.args.self.now in
    let now = c.put_bytes.new.self in
    let Put : List ℕ → Type 0 = λ path.
    EntersAnd g.T.Talk.talked g.T.Talk.connects was.session.is_in was.session.login.now was.session.user.talk
    (put_of path (bytes_in LispMachine was.is_text c.in-Ok-Some.bytes.items)) now.session.user.talk in (
      of_tried c.put_bytes.result c.of.result _
          (λ contents. (Put c.as_slice.result.now × (contents ≡ contents_of was.is_digested c.in-Ok-Some.bytes.items))
          × (now.session.is_in ≡ true)) _ c.of.ensures
          (λ contents put. (
            c.in-Some.path.items,
            ap (option_map (λ p. p.items)) c.in-Some.is,
            (c.in-Ok-Some.bytes.items, search rules, subst Put c.as_slice.ensures.value put.0.0, put.0.1),
            put.1,
          ))
          (both_ok c.put_bytes.result _ _ c.put_bytes.ensures.put c.put_bytes.ensures.inside)
          c.put_bytes.ensures.missed tt,
      c.put_bytes.ensures.stays,
      c.put_bytes.ensures.same,
    )
