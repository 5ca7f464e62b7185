-- The product of a state.
use Rattle.products.specs.Products.{Product, of_open, of_closed}
use Rattle.replay.specs.declared.steps.State.{State}
use Rattle.replay.specs.declared.steps.State.TheVariants.{Opened, Shut}

abbrev pub product_in : State → Product
product_in (Opened p) = of_open p
product_in (Shut p) = of_closed p
