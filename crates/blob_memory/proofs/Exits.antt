-- Facts about a result, by its error.
use Rattle.std.proofs.Common.{◌≡◌, sym, None, Result, Ok, Err}
use Rattle.std.specs.Prelude.{OnOk}
use Rattle.std.proofs.lemmas.Option.{none-some}
use Rattle.blob_header.specs.declared.error.Error.{Error}
use Rattle.blob_header.specs.Refusals.{error_of}

module _ {T : Type 0} where
  -- a fact about Ok holds if there is no error
  pub where_ok : (r : Result T Error) (P : Type 0) → OnOk r P → error_of r ≡ None → P
  where_ok (Ok x) P h e = h
  where_ok (Err x) P h e = absurd (none-some _ (sym e))
