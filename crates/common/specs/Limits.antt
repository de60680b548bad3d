-- The limits of a device, its images, its input and its decisions.
use Rattle.std.specs.Prelude.{ℕ}

-- A device has at most 8 images.
abbrev pub MOST_IMAGES : ℕ
MOST_IMAGES = 8

-- An image has at most 16 dependencies.
abbrev pub MOST_DEPENDENCIES : ℕ
MOST_DEPENDENCIES = 16

-- An image has at most 4 groups.
abbrev pub MOST_GROUPS : ℕ
MOST_GROUPS = 4

-- A group has at most 4 alternatives.
abbrev pub MOST_ALTERNATIVES : ℕ
MOST_ALTERNATIVES = 4

-- A trial has at most 7 boots.
abbrev pub MOST_TRIAL_BOOTS : ℕ
MOST_TRIAL_BOOTS = 7

-- A trial has at most 6 boots after the one that begins it.
abbrev pub MOST_BOOTS_LEFT : ℕ
MOST_BOOTS_LEFT = 6

-- A report has at most 8 refusals: one for each image.
abbrev pub MOST_REFUSALS : ℕ
MOST_REFUSALS = 8

-- A manifest has at most 8 components: one for each image.
abbrev pub MOST_COMPONENTS : ℕ
MOST_COMPONENTS = 8

-- A choice looks at all requests once.
abbrev pub MOST_PASSES : ℕ
MOST_PASSES = 1

-- A choice drops each request at most once.
abbrev pub MOST_DROPS : ℕ
MOST_DROPS = 8

-- A choice looks again at 28 requests at most: after the first drop at 7, then at 6, and so on.
abbrev pub MOST_LOOKS : ℕ
MOST_LOOKS = 28
