mod WordLaws
mod NumberLaws
