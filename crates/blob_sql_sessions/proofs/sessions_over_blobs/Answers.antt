use Rattle.std.proofs.Common.{◌≡◌, ◌∙◌, ◌<◌, ℕ, List, [], length, refl, ap, ap₂, subst, arith, inl, inr}
use Rattle.std.proofs.Math.Logic.{∥∥₁_map}
use Rattle.std.proofs.lemmas.Result.{IfOk-weaker}
use Rattle.sqlite_pool.proofs.StateLemmas.{clean_is}
use Rattle.sqlite_trees.proofs.Doubt.{no_doubt}
use Rattle.sqlite_trees.specs.Tree.{Trees}
use Rattle.sqlite_wal.specs.Recovery.{Image}
use Rattle.sqlite.specs.Files.{AreFoundIn, IsEmpty}
use Rattle.blob_disk.specs.Calls.{seen_of}
use Rattle.disk_power.specs.Power.{disk_of}
use Rattle.blob_sql_sessions.specs.Ends.{LeadFromNothing}
use Rattle.blob_sql_sessions.proofs.sessions_over_blobs.Goals as goal

-- two empty files hold no rows
no_rows : (image : Image) (first : Trees) → image.db ≡ [] → AreFoundIn image first → IsEmpty first
no_rows image first none (inl found) = absurd (omega (arith, found.3.found.present, ap length none))
no_rows image first none (inr (nothing, empty)) = empty

pub returns : goal.returns
returns g c =
    let db = ap seen_of c.new-4.ensures.disk ∙ c.in-Ok-new.ensures.empty in
    record {
      survive = IfOk-weaker c.sessions_survive.result _ (λ r. LeadFromNothing r.0.items c.args.sessions.now r.1)
          (λ r lead. ∥∥₁_map (lead (no_doubt _ (clean_is r.1.store.pool)))
          (λ l. (l.0, no_rows _ l.0 db l.1, l.2)))
          (c.sessions_survive.ensures.survive (inr (λ disk. refl)));
    }
