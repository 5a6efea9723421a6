-- What a message does, by who asks.
use Rattle.std.specs.Prelude.{ℕ, List, Option, Result}
use Rattle.dv_value.specs.declared.id.Id.{Id}
use Rattle.dv_value.specs.declared.raw.Raw.{Raw}
use Rattle.dv_refusal.specs.declared.refusal.Refusal.{Refusal}
use Rattle.dv_query.specs.declared.query.Query.{Query}
use Rattle.dv_request.specs.declared.reply.Reply.{Reply}
use Rattle.dv_request.specs.declared.request.Request.{Request}
use Rattle.dv_store.specs.World.{World}
use Rattle.dv_store.specs.Cursors.{told_of}
use Rattle.dv_pipeline.specs.Querying.{sight_of}
use Rattle.dv_message.specs.Scenes.{setting_of, table_at}
use Rattle.dv_pipeline.specs.Run.{RunsCreation, RunsQuery, Plays}
use Rattle.dv_message.specs.declared.scene.Scene.{Scene}

abbrev pub creation_in : Scene → World → List ℕ → Option Id → List (List ℕ × Raw) → World → Result Reply Refusal → Type 0
creation_in s old name chosen values new outcome = RunsCreation (table_at s.definition.now name) (setting_of s) old name chosen values new outcome

abbrev pub query_in : Scene → World → Query → Result Reply Refusal → Type 0
query_in s old query outcome = RunsQuery (table_at s.definition.now query.table) (sight_of s.directory.now (told_of old) s.user) s.definition.now query outcome

abbrev pub play_in : Scene → World → Request → World → Result Reply Refusal → Type 0
play_in s old request new outcome = Plays (setting_of s) old request new outcome
