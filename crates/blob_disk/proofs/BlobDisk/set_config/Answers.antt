use Rattle.std.proofs.Common.{ap, refl}
use Rattle.std.proofs.Math.Logic.{∥∥₁_map}
use Rattle.blob_faulty.specs.Keeps.{OverMemory}
use Rattle.blob_faulty.specs.Wrapper.{inner_of, inside, rng_of}
use Rattle.blob_memory.specs.Store.{durable, place}
use Rattle.blob_disk.proofs.BlobDisk.set_config.Goals as goal
use Rattle.blob_disk.proofs.Outcomes.{configured_back, configured_here, configured_openable, configured_outcomes, configured_whole}

pub invariant_of-self : goal.invariant_of-self
invariant_of-self g c =
    let d = c.args.self.now in
    let set = c.set_config.ensures.set in
    record {
      standing = ∥∥₁_map d.standing (λ f. (f.0, c.set_config.ensures.files f.0 f.1));
      tracked = d.tracked;
      here = configured_here d.blob d.store c.set_config.new.self c.args.config set d.here;
      openable = configured_openable d.store c.set_config.new.self c.args.config set d.openable;
      whole = configured_whole d.store c.set_config.new.self c.args.config set c.requires;
    }

pub returns-clause-outcomes : goal.returns-clause-outcomes
returns-clause-outcomes g c kept may = configured_outcomes c.args.self.now.blob c.args.self.now.store c.set_config.new.self c.args.config kept c.set_config.ensures.set may

pub returns-clause-bytes : goal.returns-clause-bytes
returns-clause-bytes g c =
    let d = c.args.self.now in
    let set = c.set_config.ensures.set in
    record {
      seen = refl;
      durable = ap (λ (w : OverMemory _). durable (inner_of w) (place (inside d.blob))) set;
      no_more = λ kept. configured_outcomes d.blob d.store c.set_config.new.self c.args.config kept set;
      no_fewer = λ kept. configured_back d.blob d.store c.set_config.new.self c.args.config kept set;
    }

pub returns-clause-stream : goal.returns-clause-stream
returns-clause-stream g c = ap (λ (w : OverMemory _). g.R.Rng.stream (rng_of w)) c.set_config.ensures.set
