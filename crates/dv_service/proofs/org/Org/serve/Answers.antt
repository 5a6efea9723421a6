use Rattle.std.proofs.Common.{ap, refl, sym, ◌∙◌, FitsSigned, w64}
use Rattle.std.proofs.lemmas.Int.{to_z-of_z}
use Rattle.std.proofs.lemmas.Result.{IfOk-weaker}
use Rattle.dv_service.specs.Serving.{reply_of}
use Rattle.dv_service.proofs.Served.{Serves-directory, Serves-rows}
use Rattle.dv_service.proofs.org.Org.serve.Goals as goal

pub returns-then-is_of_directory-clause-ok : goal.returns-then-is_of_directory-clause-ok
returns-then-is_of_directory-clause-ok c = IfOk-weaker c.manage.result _ _ (λ line e. (
  e.0,
  Serves-directory _ _ _ _ _ _ (sym c.is_of_directory.ensures ∙ c.if-is_of_directory.true) e.1,
  e.2,
)) c.manage.ensures.ok

pub returns-in-Ok-clause-ok : goal.returns-in-Ok-clause-ok
returns-in-Ok-clause-ok c =
    let ran = c.in-Ok.ensures.ok in
    let fits : FitsSigned w64 c.args.now = c.ranges.now in
    let runs = simp to_z-of_z at ran.1 in (
      reply_of ran.0,
      rw (← c.self.view_is) (Serves-rows _ _ _ _ _ _ (sym c.is_of_directory.ensures ∙ c.if-is_of_directory.false) (record {
        world = c.run_printed.new.store.present;
        outcome = ran.0;
        runs = runs;
        told = refl;
        kept = ap (λ store. record { definition = c.self.inside.definition; directory = c.self.inside.directory; world = store.present }) c.forget.ensures;
        sound = c.in-Ok.ensures.sound.links;
      })),
      ran.2,
    )
