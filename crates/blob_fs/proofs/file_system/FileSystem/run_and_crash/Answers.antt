use Rattle.blob_fs.proofs.file_system.FileSystem.run_and_crash.Goals as goal

pub returns-clause-kept : goal.returns-clause-kept
returns-clause-kept g c = record { between = c.run.new.self; done = c.in_ok-oks.ensures.done; grows = c.in_ok-oks.ensures.grows; kept = c.in_ok-crash.ensures.found; finds = c.in_ok-crash.ensures.kept; bytes = c.in_ok-crash.ensures.bytes; known = c.in_ok-crash.ensures.known; fixed = c.in_ok-crash.ensures.fixed; fixes = c.in_ok-crash.ensures.fixes; places = c.in_ok-crash.ensures.places }
