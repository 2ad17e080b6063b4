-- What is known of equal options.
use Rattle.std.proofs.Common.{◌≡◌}
