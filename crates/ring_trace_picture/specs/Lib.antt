pub mod TracePictures
pub mod PictureModels
pub mod PictureTexts
