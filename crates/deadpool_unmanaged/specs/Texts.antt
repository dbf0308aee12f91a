-- What `{}` writes for an error.
use Rattle.std.specs.Prelude.{ℕ, List, codes}
use Rattle.deadpool_unmanaged.specs.declared.error.PoolError.{PoolError}
use Rattle.deadpool_unmanaged.specs.declared.error.PoolError.TheVariants.{Timeout, Closed, NoRuntimeSpecified}
use Rattle.deadpool_unmanaged.specs.declared.error.PoolError.TheVariants.{Crowded, OutOfMemory}

abbrev pub pool_error_text : PoolError → List ℕ
pool_error_text Timeout = codes "Timeout occurred while waiting for an object to become available"
pool_error_text Closed = codes "Pool has been closed"
pool_error_text NoRuntimeSpecified = codes "No runtime specified"
pool_error_text Crowded = codes "Too many wait already"
pool_error_text OutOfMemory = codes "Out of memory"
