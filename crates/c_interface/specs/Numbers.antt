-- The numbers that the calls return, as C has them in its `enum bootswap_number`.
use Rattle.std.specs.Prelude.{ℕ}

-- What a call that was made returns.
abbrev pub DONE : ℕ
DONE = 0

abbrev pub BOOTED : ℕ
BOOTED = 1

abbrev pub REVERTED : ℕ
REVERTED = 2

abbrev pub TRIAL_AGAIN : ℕ
TRIAL_AGAIN = 3

abbrev pub REFUSED : ℕ
REFUSED = 4

abbrev pub CUT : ℕ
CUT = 5

-- What a call returns if it wasn't made.
abbrev pub NO_MAP : ℕ
NO_MAP = 16

abbrev pub NO_TRIAL : ℕ
NO_TRIAL = 17

abbrev pub NO_FLASH : ℕ
NO_FLASH = 18

abbrev pub NO_IMAGE : ℕ
NO_IMAGE = 19

abbrev pub TOO_MANY : ℕ
TOO_MANY = 20

abbrev pub NO_LOG : ℕ
NO_LOG = 21

-- What the calls for texts return.
abbrev pub NO_TABLE : ℕ
NO_TABLE = 24

abbrev pub NO_REPORT : ℕ
NO_REPORT = 25

abbrev pub INVALID_SET : ℕ
INVALID_SET = 26

abbrev pub WRONG : ℕ
WRONG = 27

abbrev pub TOO_SMALL : ℕ
TOO_SMALL = 28

-- What the call that makes an image returns if no image has its values.
abbrev pub BAD_IMAGE : ℕ
BAD_IMAGE = 29

-- The largest number of cuts that a call takes.
abbrev pub MOST_CUTS : ℕ
MOST_CUTS = 16

-- The largest number of components of a manifest.
abbrev pub MOST_COMPONENTS : ℕ
MOST_COMPONENTS = 8
